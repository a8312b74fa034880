-- `endian_little::store_le` meets its contract. Invariant: the bytes from i on, over what stands there, are still the whole number's.
-- Assumes nothing.
use mathlib.Core.Path.{◌≡◌}
use Prim.Native.Nat.{◌+◌, ◌-◌, ◌≤◌}
use lib.ListN.{length}
use Rattle.endian.specs.Bytes.{patch}
use Rattle.endian_little.specs.Bytes.{le_bytes}
use Rattle.endian_little.proofs.store_le.Given as goal

abbrev pub invariant-loop-i : goal.invariant-loop-i
invariant-loop-i l = (l.i ≤ l.n) × (patch (l.off + l.i) (le_bytes (l.n - l.i) l.x) l.buf ≡ patch l.off (le_bytes l.n l.v) l.initial.buf) × (length l.buf ≡ length l.initial.buf)
