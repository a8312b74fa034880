-- A number in decimal.
-- Assumes nothing.
use Rattle.std.specs.Prelude.{List, [], ◌∷◌, ◌++◌, cond, ℕ, zero, suc, ◌+◌, ◌-◌, ◌*◌, ◌/◌, ◌%◌, ltb}

-- the byte of a digit
abbrev pub digit : ℕ → ℕ
digit d = 48 + d

-- the digits of `n`, the most significant first, in at most `turns` + 1
unfoldable pub digits : ℕ → ℕ → List ℕ
digits zero n = digit n ∷ []
digits (suc turns) n = cond (ltb n 10) (digit n ∷ []) (digits turns (n / 10) ++ (digit (n % 10) ∷ []))

-- the digits of `n`, the most significant first; `0` for 0
unfoldable pub decimal : ℕ → List ℕ
decimal n = digits n n

-- the number that digits say, after those that say `v`
unfoldable pub value_after : ℕ → List ℕ → ℕ
value_after v [] = v
value_after v (b ∷ bs) = value_after (v * 10 + (b - 48)) bs
