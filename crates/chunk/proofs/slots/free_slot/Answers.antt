-- `chunk::slots::free_slot` meets its contract.
-- Assumes nothing.
use Rattle.chunk.proofs.Pieces.{lent_length, free_back}
use Rattle.structs.specs.Sizes.{is_inode}
use mathlib.Core.Path.{ap, ◌∙◌}
use Rattle.chunk.proofs.slots.free_slot.Goals as goal

pub blank-requires : goal.blank-requires
blank-requires c = ap is_inode (lent_length _ _ _ c.requires.1) ∙ c.requires.0

pub returns : goal.returns
returns c = free_back _ _ _ _ _ _ _ c.requires.1 c.blank.ensures
