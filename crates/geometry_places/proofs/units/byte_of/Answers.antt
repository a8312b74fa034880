-- `geometry_places::units::byte_of` meets its contract: the code is the definition.
-- Assumes nothing.
use borrow.Author.Rules.{rules}
use Rattle.geometry_layout.specs.Places.{disk_blocks_before, byte_of}
use Rattle.geometry_places.proofs.units.byte_of.Goals as goal

pub returns : goal.returns
unfolding byte_of disk_blocks_before
returns c = search rules
