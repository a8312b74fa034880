-- `sb::ro_compat` meets its contract.
-- Assumes nothing.
use mathlib.Core.Path.{◌∙◌}
use Rattle.sb.proofs.ro_compat.Goals as goal

pub returns : goal.returns
returns c = c.known.ensures ∙ rw c.ro_of.ensures
