-- `sb::ro_of` meets its contract.
-- Assumes nothing.
use Rattle.sb.specs.Superblock.{ro_compat}
use Rattle.sb.proofs.ro_of.Goals as goal

pub returns : goal.returns
unfolding ro_compat
returns c = rw (c.flag-4.ensures.0, c.flag-3.ensures.0, c.flag-2.ensures.0, c.flag.ensures.0)
