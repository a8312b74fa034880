-- `chunk::slots::free_slots` meets its contract. Invariant: the first i slots are free inodes, and the others are as they were.
-- Assumes nothing.
use Rattle.std.proofs.Common.{◌≡◌, ◌∙◌, ◌*◌, length, rules}
use lib.ListN.{length-replicate}
use Rattle.chunk.proofs.Pieces.{slots-first, free-length, slot-room, slot_turn}
use Rattle.chunk.proofs.slots.free_slots.Goals as goal

pub loop-i-init : goal.loop-i-init
loop-i-init c = slots-first _ c.args.size _

pub loop-i-preserved : goal.loop-i-preserved
loop-i-preserved c =
    let g : length c.args.buf.now ≡ 64 * c.args.size = c.requires.1 in
    slot_turn _ c.args.size (λ i. free-length _ _ _ _ ∙ length-replicate _ _) _ _ _ _ (slot-room _ 64 _ _ (search rules) g) c.loop-i.invariant c.free_slot.ensures
