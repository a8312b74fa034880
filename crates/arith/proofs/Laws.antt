-- Laws of quotients rounded up, and of bits.
-- Assumes nothing.
use mathlib.Core.Path.{◌≡◌, refl}
use mathlib.Core.Bool.{Bool, true, false, not}
use Prim.Native.Nat.{ℕ, zero, suc, ◌+◌, ◌/◌, ◌%◌, ◌≤◌}
use native.Mathlib.Omega.{arith}
use native.Mathlib.Nat.{div-zero, mod-zero, div-le_self, div-add-mod', mul-suc}
use borrow.Author.Tests.{eqb-false}
use lib.Dec.{eqb}
use Rattle.arith.specs.Choice.{bit}
use Rattle.arith.specs.Numbers.{ceil_div}

more : (a b : ℕ) → (a % b ≡ 0 → ⊥) → a / b + 1 ≤ a
more a zero h = omega (arith, div-zero a, mod-zero a)
more a (suc k) h = omega (arith, div-add-mod' a (suc k), mul-suc (a / suc k) k)

by-test : (a b : ℕ) (t : Bool) → eqb (a % b) 0 ≡ t → a / b + bit (not t) ≤ a
unfolding bit
by-test a b true e = omega (arith, div-le_self a b)
by-test a b false e = more a b (eqb-false (a % b) 0 e)

-- a quotient rounded up is at most the dividend
pub ceil-le : (a b : ℕ) → a / b + bit (not (eqb (a % b) 0)) ≤ a
ceil-le a b = by-test a b (eqb (a % b) 0) refl

pub ceil_div-le : (a b : ℕ) → ceil_div a b ≤ a
unfolding ceil_div
ceil_div-le a b = ceil-le a b

pub bit_le : (b : Bool) → bit b ≤ 1
unfolding bit
bit_le true = omega arith
bit_le false = omega arith
