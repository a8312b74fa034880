-- The test of a product by a quotient.
-- Assumes nothing.
use mathlib.Core.Path.{◌≡◌, refl, sym, ◌∙◌}
use mathlib.Core.Bool.{Bool, true, false}
use Prim.Native.Nat.{ℕ, ◌*◌, ◌/◌, ◌^◌, ◌<◌}
use native.Mathlib.Omega.{arith}
use native.Mathlib.Nat.{le-div_iff_mul-le, div-lt_iff_lt-mul}
use borrow.Author.Tests.{leb-true, leb-false, lt-ltb, le-ltb}
use lib.Dec.{leb, ltb}

fits-case : (a b : ℕ) (t : Bool) → 0 < b → leb a (18446744073709551615 / b) ≡ t → leb a (18446744073709551615 / b) ≡ ltb (a * b) (2 ^ 64)
fits-case a b true h e =
    e ∙ sym (lt-ltb (a * b) (2 ^ 64) (let w = (le-div_iff_mul-le h).0 (leb-true a (18446744073709551615 / b) e) in omega arith))
fits-case a b false h e =
    e ∙ sym (le-ltb (a * b) (2 ^ 64) (let w = (div-lt_iff_lt-mul h).0 (leb-false a (18446744073709551615 / b) e) in omega arith))

-- a is at most the largest 64-bit number divided by b exactly where the product is below 2 ^ 64
pub fits-test : (a b : ℕ) → 0 < b → leb a (18446744073709551615 / b) ≡ ltb (a * b) (2 ^ 64)
fits-test a b h = fits-case a b (leb a (18446744073709551615 / b)) h refl
