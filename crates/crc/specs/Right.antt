-- Whether the right checksum stood there already: what an encoder says of the lent bytes as they were before it zeroed or wrote anything.
-- Assumes nothing.
use Rattle.std.specs.Prelude.{Bool, true, ◌&&◌, List, [], ◌∷◌, ℕ, zero, suc, ◌+◌, eqb}
use Rattle.endian.specs.Answer.{room, valued}
use Rattle.endian_little.specs.Bytes.{le_at}

-- the checksum that stands at `off`, as the number that its four bytes are; 0 where they don't lie inside
unfoldable pub stored_at : ℕ → List ℕ → ℕ
stored_at off xs = valued (room (off + 4) xs) (le_at 4 off xs)

-- at each of the places the same checksum stands before and after
unfoldable pub already_right : List ℕ → List ℕ → List ℕ → Bool
already_right [] before after = true
already_right (o ∷ os) before after = eqb (stored_at o before) (stored_at o after) && already_right os before after

-- `n` places, the first at `at`, and each `step` bytes behind the one before it
unfoldable pub spaced : ℕ → ℕ → ℕ → List ℕ
spaced at step zero = []
spaced at step (suc n) = at ∷ spaced (at + step) step n
