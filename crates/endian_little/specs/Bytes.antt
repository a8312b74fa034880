-- The bytes of a number, the lowest first. The width is a variable throughout.
-- Assumes nothing.
use Rattle.std.specs.Prelude.{List, [], ◌∷◌, ℕ, zero, suc, ◌+◌, ◌*◌, ◌/◌, ◌%◌, get_or}

-- `v` in `n` bytes, the lowest first
unfoldable pub le_bytes : ℕ → ℕ → List ℕ
le_bytes zero v = []
le_bytes (suc n) v = v % 256 ∷ le_bytes n (v / 256)

-- the number that the `n` bytes at `off` are, the lowest first
unfoldable pub le_at : ℕ → ℕ → List ℕ → ℕ
le_at zero off xs = 0
le_at (suc n) off xs = get_or xs off 0 + 256 * le_at n (suc off) xs
