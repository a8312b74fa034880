-- `sb::versionnum` meets its contract.
-- Assumes nothing.
use Rattle.sb.specs.Superblock.{version_of, large_sector}
use Rattle.sb.proofs.versionnum.Goals as goal

pub returns : goal.returns
unfolding version_of large_sector
returns c = rw (c.known.ensures, c.version_of-version.ensures, c.large_sector.ensures)
