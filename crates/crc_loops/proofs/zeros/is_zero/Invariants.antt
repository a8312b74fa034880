-- `crc_loops::zeros::is_zero` meets its contract. Invariant: where x is 0, so are the bytes that were read.
-- Assumes nothing.
use lib.ListN.{get_or}
use Prim.Native.Nat.{ℕ, ◌<◌}
use mathlib.Core.Path.{◌≡◌}
use Rattle.crc_loops.proofs.zeros.is_zero.Given as goal

abbrev pub invariant-loop-b : goal.invariant-loop-b
invariant-loop-b l = l.x ≡ 0 → (k : ℕ) → k < l.b-index → get_or l.s k 0 ≡ 0
