-- `geometry_places::units::ino_of` meets its contract: the shifts multiply.
-- Assumes nothing.
use Rattle.geometry_layout.specs.Places.{fsb_of, ino_of}
use Rattle.geometry_places.proofs.Room.{part-below}
use Rattle.geometry_places.proofs.units.ino_of.Goals as goal

pub fsb_of-requires : goal.fsb_of-requires
fsb_of-requires c = (c.requires.0, c.requires.2)

pub shifted-requires : goal.shifted-requires
unfolding fsb_of
shifted-requires c = rw c.fsb_of.ensures (c.requires.1, part-below _ _ _ c.requires.3)

pub overflow_add-result : goal.overflow_add-result
unfolding fsb_of
overflow_add-result c = rw (c.shifted.ensures, c.fsb_of.ensures) (record { fits = c.requires.3 })

pub returns : goal.returns
unfolding ino_of
returns c = rw (c.shifted.ensures, c.fsb_of.ensures)
