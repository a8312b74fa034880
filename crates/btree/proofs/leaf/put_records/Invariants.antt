-- `btree::leaf::put_records` meets its contract. Invariant: the bytes of `recs` from i on are copied, and all others are as they were.
-- Assumes nothing.
use mathlib.Core.Path.{◌≡◌}
use Prim.Native.Nat.{◌+◌, ◌≤◌}
use lib.ListN.{length, drop}
use Rattle.endian.specs.Bytes.{patch}
use Rattle.btree.proofs.leaf.put_records.Given as goal

abbrev pub invariant-loop-i : goal.invariant-loop-i
invariant-loop-i l = (l.i ≤ length l.recs) × (l.block ≡ patch (56 + l.i) (drop l.i l.recs) l.initial.block) × (length l.block ≡ length l.initial.block)

abbrev pub decreases-loop-i : goal.decreases-loop-i
decreases-loop-i l = l.i
