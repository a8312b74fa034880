-- The header's blocks are at most four times the sector.
-- Assumes nothing.
use Prim.Native.Nat.{ℕ, ◌*◌, ◌≤◌}
use Rattle.arith.proofs.Laws.{ceil_div-le}
use Rattle.geometry.specs.Log.{header_of}

pub header-le : (s b : ℕ) → header_of s b ≤ 4 * s
unfolding header_of
header-le s b = ceil_div-le (4 * s) b
