-- `request::options::uuid_in` meets its contract.
-- Assumes nothing.
use mathlib.Core.Path.{◌∙◌}
use Rattle.request.proofs.Values.{uuid-inside}
use Rattle.request.proofs.options.uuid_in.Goals as goal

pub uuid_of-requires : goal.uuid_of-requires
uuid_of-requires c = rw c.value_of.ensures (uuid-inside _)

pub returns : goal.returns
returns c = c.uuid_of.ensures ∙ rw c.value_of.ensures
