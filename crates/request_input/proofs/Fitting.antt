-- Which numbers fit an option's type: the tests that the code makes.
-- Assumes nothing.
use mathlib.Core.Path.{◌≡◌, refl}
use mathlib.Core.Bool.{Bool, true, false}
use Prim.Native.Nat.{ℕ, ◌/◌, ◌^◌, ◌≤◌, ◌<◌}
use native.Mathlib.Omega.{arith}
use native.Mathlib.Nat.{div-eq_of_lt, div-add-mod', mod-lt}
use lib.Dec.{ltb, eqb}
use lib.Pow.{pow_mono}
use lib.ListN.{get_or}
use borrow.Author.Tests.{lt-ltb, eq-eqb, ltb-true, ltb-false, ne_eqb}
use Rattle.request_input.specs.Records.{option_bits, option_fits}

module _ (code n b : ℕ) (is : b ≡ get_or option_bits code 0) where
  pub fits-none : b ≡ 0 → false ≡ option_fits code n
  unfolding option_fits
  fits-none e = rw (← is, e) refl

  pub fits_all : 64 ≤ b → n < 2 ^ 64 → true ≡ option_fits code n
  unfolding option_fits
  fits_all h l =
      let p : 2 ^ 64 ≤ 2 ^ b = pow_mono {i = 64} h in
      rw (← is, lt-ltb 0 b (omega arith), lt-ltb n (2 ^ b) (omega arith)) refl

  pub fits-shift : (b ≡ 0 → ⊥) → eqb (n / 2 ^ b) 0 ≡ option_fits code n
  unfolding option_fits
  fits-shift ne = rw (← is, lt-ltb 0 b (let g : 0 < b = omega arith in g)) (shifted n (2 ^ b) (positive b))
    where
      positive : (k : ℕ) → 0 < 2 ^ k
      positive k = let p : 2 ^ 0 ≤ 2 ^ k = pow_mono {i = 0} (omega arith) in omega arith

      shifted : (n m : ℕ) → 0 < m → eqb (n / m) 0 ≡ ltb n m
      shifted n m pos = go (ltb n m) refl
        where
          go : (t : Bool) → ltb n m ≡ t → eqb (n / m) 0 ≡ t
          go true e = eq-eqb (n / m) 0 (div-eq_of_lt (ltb-true n m e))
          go false e = ne_eqb (n / m) 0 (λ z. let g = ltb-false n m e in omega (arith, rw z at (div-add-mod' n m), mod-lt n pos))
