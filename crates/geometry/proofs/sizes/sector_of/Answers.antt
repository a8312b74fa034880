-- `geometry::sizes::sector_of` meets its contract: each call gives what its definition says.
-- Assumes nothing.
use Rattle.geometry.proofs.sizes.sector_of.Goals as goal

pub returns-in-None : goal.returns-in-None
returns-in-None c = rw (c.default_sector.ensures, c.in-None.is)
