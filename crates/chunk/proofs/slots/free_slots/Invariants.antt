-- `chunk::slots::free_slots` meets its contract. Invariant: the first i slots are free inodes, and the others are as they were.
-- Assumes nothing.
use lib.ListN.{drop}
use Prim.Native.Nat.{◌*◌}
use mathlib.Core.List.{◌++◌}
use mathlib.Core.Path.{◌≡◌}
use Rattle.chunk.specs.Slots.{slots, free_slot}
use Rattle.chunk.proofs.slots.free_slots.Given as goal

abbrev pub invariant-loop-i : goal.invariant-loop-i
invariant-loop-i l = l.buf ≡ slots (free_slot l.first l.generation l.uuid l.size) 0 l.i ++ drop (l.i * l.size) l.initial.buf
