-- `request::options::time_in` meets its contract.
-- Assumes nothing.
use mathlib.Core.Path.{refl, ◌∙◌}
use Rattle.request_input.specs.Records.{option_bits}
use Rattle.request.proofs.Values.{short-fits}
use Rattle.request.proofs.options.time_in.Goals as goal

pub time_of-requires : goal.time_of-requires
unfolding option_bits
time_of-requires c = rw c.option.ensures (short-fits _ c.requires 11 refl)

pub returns : goal.returns
returns c = c.time_of.ensures ∙ rw (c.option.ensures, c.option-seconds.ensures)
