-- `endian::numbers::load` meets its contract. Invariant: x is the number in the first i bytes.
-- Assumes nothing.
use mathlib.Core.Path.{◌≡◌}
use Prim.Native.Nat.{◌≤◌}
use Rattle.endian.specs.Bytes.{be_at}
use Rattle.endian.proofs.numbers.load.Given as goal

abbrev pub invariant-loop-b : goal.invariant-loop-b
invariant-loop-b l = (l.b-index ≤ l.n) × (l.x ≡ be_at l.b-index l.off l.buf)
