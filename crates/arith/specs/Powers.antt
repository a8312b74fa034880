-- Logarithms of powers of two.
-- Assumes nothing.
use Rattle.std.specs.Prelude.{ℕ, zero, suc, ◌+◌, ◌^◌, List, [], ◌∷◌, leb, eqb}
use Rattle.arith.specs.Choice.{when}

-- the power of the list, with n equal to 2 ^ it, and 0 where there is none
unfoldable pub power_in : List ℕ → ℕ → ℕ
power_in [] n = 0
power_in (k ∷ ks) n = when (eqb n (2 ^ k)) k (power_in ks n)

-- the logarithm of a power of two from 512 to 65536, and 0 of any other number
unfoldable pub power_log : ℕ → ℕ
power_log n = power_in (9 ∷ 10 ∷ 11 ∷ 12 ∷ 13 ∷ 14 ∷ 15 ∷ 16 ∷ []) n

-- the least power from l on, after at most `fuel` steps, with n at most 2 ^ it
unfoldable pub least_from : ℕ → ℕ → ℕ → ℕ
least_from zero l n = l
least_from (suc fuel) l n = when (leb n (2 ^ l)) l (least_from fuel (l + 1) n)

-- the least power with 2 ^ it at least n, for n up to 2 ^ 64
unfoldable pub log2_up : ℕ → ℕ
log2_up n = least_from 64 0 n
