-- An offset as a number of bytes.
-- Assumes nothing.
use Rattle.std.specs.Prelude.{ℕ, ℤ, pos, negsuc}

-- an offset that isn't negative; 0 of any other
abbrev pub bytes_to : ℤ → ℕ
bytes_to (pos n) = n
bytes_to (negsuc n) = 0
