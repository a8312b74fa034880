-- Tests of an option's number.
-- Assumes nothing.
use Rattle.std.specs.Prelude.{Bool, false, not, ℕ, ◌%◌, eqb, Option, Some, None}

-- it is given as 0
abbrev pub zero64 : Option ℕ → Bool
zero64 (Some n) = eqb n 0
zero64 None = false

-- it is given, and no multiple of m
abbrev pub partial64 : Option ℕ → ℕ → Bool
partial64 (Some n) m = not (eqb (n % m) 0)
partial64 None m = false
