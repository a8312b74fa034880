-- `request::options::imaxpct` meets its contract.
-- Assumes nothing.
use mathlib.Core.Path.{refl, ◌∙◌}
use Rattle.request_input.specs.Records.{option_bits}
use Rattle.request.proofs.Values.{byte_fits}
use Rattle.request.proofs.options.imaxpct.Goals as goal

pub byte-requires : goal.byte-requires
unfolding option_bits
byte-requires c = rw c.option.ensures (byte_fits _ c.requires 7 refl)

pub returns : goal.returns
returns c = c.byte.ensures ∙ rw c.option.ensures
