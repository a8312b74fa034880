-- `sb::incompat` meets its contract.
-- Assumes nothing.
use mathlib.Core.Path.{◌∙◌}
use Rattle.sb.proofs.incompat.Goals as goal

pub returns : goal.returns
returns c = c.known.ensures ∙ rw c.in_of.ensures
