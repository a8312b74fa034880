-- Zeros over a hole of a file: where they need no write. Bytes that are zeros alone.
-- Assumes nothing.
use Rattle.std.specs.Prelude.{Bool, true, ◌&&◌, ◌≡◌, List, [], ◌∷◌, ℕ, ◌+◌, ◌≤◌, ◌<◌, eqb, leb}
use Rattle.list_records.specs.Records.{WZ}
use Rattle.list_records.specs.Device.{Device, applied}

-- `len` bytes from `at` on, where a hole begins at `hole` and the next data at `next`
unfoldable pub in_hole : ℕ → ℕ → ℕ → ℕ → Bool
in_hole hole next at len = eqb hole at && leb (at + len) next

-- a file's bytes from the hole to the next data read as zeros
abbrev pub ZerosIn : Device → ℕ → ℕ → Type 0
ZerosIn d hole next = (x : ℕ) → hole ≤ x → x < next → d x ≡ 0

-- zeros written there leave every byte as it was
abbrev pub Unchanged : Device → ℕ → ℕ → Type 0
Unchanged d at len = (x : ℕ) → applied (WZ at len ∷ []) d x ≡ d x

-- every byte is zero
unfoldable pub is_blank : List ℕ → Bool
is_blank [] = true
is_blank (b ∷ bs) = eqb b 0 && is_blank bs
