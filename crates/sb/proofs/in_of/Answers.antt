-- `sb::in_of` meets its contract.
-- Assumes nothing.
use Rattle.sb.specs.Superblock.{in_compat}
use Rattle.sb.proofs.in_of.Goals as goal

pub returns : goal.returns
unfolding in_compat
returns c = rw (c.flag-3.ensures.0, c.flag-2.ensures.0, c.flag.ensures.0)
