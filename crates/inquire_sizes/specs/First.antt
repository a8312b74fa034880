-- The first of some numbers in a row that passes a test.
-- Assumes nothing.
use Rattle.std.specs.Prelude.{Bool, cond, ℕ, zero, suc, ◌+◌}

-- the first of at, at + 1, .., n numbers, that passes the test; at + n where none does
unfoldable pub first_from : (ℕ → Bool) → ℕ → ℕ → ℕ
first_from t at zero = at
first_from t at (suc n) = cond (t at) at (first_from t (at + 1) n)
