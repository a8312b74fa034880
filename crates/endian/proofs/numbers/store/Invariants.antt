-- `endian::numbers::store` meets its contract. The loop writes the bytes from the last to the first: `n - i` of them stand in the buffer.
-- Assumes nothing.
use mathlib.Core.Path.{◌≡◌}
use Prim.Native.Nat.{◌+◌, ◌-◌, ◌≤◌, ◌/◌, ◌^◌}
use lib.ListN.{length}
use Rattle.endian.specs.Bytes.{be_bytes, patch}
use Rattle.endian.proofs.numbers.store.Given as goal

abbrev pub invariant-loop-i : goal.invariant-loop-i
invariant-loop-i l = (l.i ≤ l.n) × (l.x ≡ l.v / 256 ^ (l.n - l.i)) × (l.buf ≡ patch (l.off + l.i) (be_bytes (l.n - l.i) l.v) l.initial.buf) × (length l.buf ≡ length l.initial.buf)
