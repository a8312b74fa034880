-- `request::options::label_in` meets its contract.
-- Assumes nothing.
use mathlib.Core.Path.{◌∙◌}
use Rattle.request.proofs.Values.{label_inside}
use Rattle.request.proofs.options.label_in.Goals as goal

pub label_of-requires : goal.label_of-requires
label_of-requires c = rw c.value_of.ensures (label_inside _)

pub returns : goal.returns
returns c = c.label_of.ensures ∙ rw c.value_of.ensures
