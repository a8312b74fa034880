-- A number of 64 bits in two's complement, as the machine has it and as `signed` says it.
-- Assumes nothing.
use mathlib.Core.Path.{◌≡◌, refl, ap, ◌∙◌}
use Prim.Native.Nat.{ℕ, zero, suc, ◌-◌, ◌^◌, ◌≤◌, ◌<◌}
use native.Mathlib.Omega.{arith}
use native.Mathlib.Nat.{zero-add}
use mathlib.Core.Bool.{Bool, true, false}
use lib.Dec.{ltb}
use lib.IntN.{pos, negsuc, ◌-ℤ◌}
use mir.Syntax.{w64}
use mir.Val.{SFits, to_z}
use mir.ValLaws.{to_z_pos}
use borrow.Author.Tests.{lt-ltb, ltb-true}
use Rattle.request.specs.Options.{signed}

pub not_negative : (n : ℕ) → n < 2 ^ 63 → to_z w64 n ≡ signed n
unfolding signed
not_negative n h =
    let s : pos n ≡ signed n = rw (lt-ltb n (2 ^ 63) h) refl in
    to_z_pos w64 n h ∙ s

below-zero : (k : ℕ) → negsuc 0 -ℤ pos k ≡ negsuc k
below-zero zero = refl
below-zero (suc k) = ap (λ (j : ℕ). negsuc (suc j)) (zero-add k)

read : (k : ℕ) → k < 2 ^ 63 → negsuc 0 -ℤ to_z w64 k ≡ negsuc k
read k h = rw (to_z_pos w64 k h) (below-zero k)

module _ (n : ℕ) (high : 2 ^ 63 ≤ n) (fits : n < 2 ^ 64) where
  rest : 18446744073709551615 - n < 2 ^ 63
  rest = omega arith

  pub negative_fits : SFits w64 (negsuc 0 -ℤ to_z w64 (18446744073709551615 - n))
  negative_fits = rw (read (18446744073709551615 - n) rest) (record { sfits = rest })

-- whichever it is
pub in_twos_complement : (n : ℕ) → n < 2 ^ 64 → to_z w64 n ≡ signed n
unfolding signed
in_twos_complement n fits = go (ltb n (2 ^ 63)) refl
  where
    go : (t : Bool) → ltb n (2 ^ 63) ≡ t → to_z w64 n ≡ signed n
    go true e = not_negative n (ltb-true n (2 ^ 63) e)
    go false e = rw (e, lt-ltb n (2 ^ 64) fits) refl
