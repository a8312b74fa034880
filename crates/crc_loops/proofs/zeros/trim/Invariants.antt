-- `crc_loops::zeros::trim` meets its contract. Invariant: from `at` on there are n times 64 bytes, and each is 0.
-- Assumes nothing.
use lib.ListN.{length, get_or}
use Prim.Native.Nat.{ℕ, ◌+◌, ◌*◌, ◌≤◌, ◌<◌}
use mathlib.Core.Path.{◌≡◌}
use Rattle.crc_loops.proofs.zeros.trim.Given as goal

abbrev pub invariant-loop-n : goal.invariant-loop-n
invariant-loop-n l = (l.at + l.n * 64 ≡ length l.s) × ((i : ℕ) → l.at ≤ i → i < length l.s → get_or l.s i 0 ≡ 0)
