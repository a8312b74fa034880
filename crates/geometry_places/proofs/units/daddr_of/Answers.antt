-- `geometry_places::units::daddr_of` meets its contract: the code is the definition.
-- Assumes nothing.
use borrow.Author.Rules.{rules}
use Rattle.geometry_layout.specs.Places.{disk_blocks_before, daddr_of}
use Rattle.geometry_places.proofs.units.daddr_of.Goals as goal

pub returns : goal.returns
unfolding daddr_of disk_blocks_before
returns c = search rules
