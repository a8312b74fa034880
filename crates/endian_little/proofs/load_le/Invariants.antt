-- `endian_little::load_le` meets its contract. Invariant: x is the number in the bytes that were taken, the last ones.
-- Assumes nothing.
use mathlib.Core.Path.{◌≡◌}
use Prim.Native.Nat.{◌+◌, ◌-◌, ◌≤◌}
use lib.ListN.{length}
use Rattle.endian_little.specs.Bytes.{le_at}
use Rattle.endian_little.proofs.load_le.Given as goal

abbrev pub invariant-loop-b : goal.invariant-loop-b
invariant-loop-b l = (length l.yielded ≤ l.n) × (l.x ≡ le_at (length l.yielded) (l.off + (l.n - length l.yielded)) l.buf)
