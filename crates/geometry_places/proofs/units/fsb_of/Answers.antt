-- `geometry_places::units::fsb_of` meets its contract: a shift to the left multiplies.
-- Assumes nothing.
use borrow.Author.Rules.{rules}
use Rattle.geometry_layout.specs.Places.{fsb_of}
use Rattle.geometry_places.proofs.units.fsb_of.Goals as goal

pub returns : goal.returns
unfolding fsb_of
returns c = search rules
