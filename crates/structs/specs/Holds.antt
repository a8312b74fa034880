-- A buffer that holds the fields of a structure: each field's bytes stand at its place.
-- Assumes nothing.
use Rattle.std.specs.Prelude.{◌≡◌, List, [], ◌∷◌, ℕ, ◌+◌, ◌<◌, length}
use Rattle.endian.specs.Fields.{Field, field, part, nth}

abbrev pub Holds : List Field → List ℕ → Type 0
Holds fs zs = (k : ℕ) → k < length fs → part (nth fs k).at (length (nth fs k).bytes) zs ≡ (nth fs k).bytes

-- the numbers `vs` as fields of `n` bytes, one behind the other from `off` on
abbrev pub numbered : ℕ → ℕ → List ℕ → List Field
numbered n off [] = []
numbered n off (v ∷ vs) = field off n v ∷ numbered n (off + n) vs
