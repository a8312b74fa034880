-- What a yes of `already_right` means: in bytes, and of the parts of a buffer.
-- Assumes nothing.
use Rattle.std.specs.Prelude.{◌≡◌, Bool, true, ◌&&◌, List, [], ◌∷◌, ℕ, zero, suc, ◌+◌, ◌≤◌}
use Rattle.endian.specs.Fields.{part}
use Rattle.crc.specs.Right.{already_right}

-- the four bytes at each of the places lie inside `len` bytes
abbrev pub Inside : List ℕ → ℕ → Type 0
Inside [] len = Unit {0}
Inside (o ∷ os) len = (o + 4 ≤ len) × Inside os len

-- the four bytes at each of the places are the same before and after
abbrev pub SameSums : List ℕ → List ℕ → List ℕ → Type 0
SameSums [] before after = Unit {0}
SameSums (o ∷ os) before after = (part o 4 before ≡ part o 4 after) × SameSums os before after

-- the `size` bytes from `base` on, taken alone, have their checksum at `off` already
abbrev pub part_right : ℕ → ℕ → ℕ → List ℕ → List ℕ → Bool
part_right off base size before after = already_right (off ∷ []) (part base size before) (part base size after)

-- and so do `n` parts of this size, one behind the other
unfoldable pub parts_right : ℕ → ℕ → ℕ → ℕ → List ℕ → List ℕ → Bool
parts_right off base size zero before after = true
parts_right off base size (suc n) before after = part_right off base size before after && parts_right off (base + size) size n before after
