-- The answer for a number that is 0, and for one that is not.
-- Assumes nothing.
use mathlib.Core.Path.{◌≡◌, refl}
use mathlib.Core.Bool.{Bool, true, false}
use lib.Dec.{eqb}
use Prim.Native.Nat.{ℕ}
use borrow.Author.Tests.{eq-eqb, ne_eqb}
use Rattle.geometry.specs.declared.Geometry.{Geometry}
use Rattle.geometry.specs.Compute.{zero_geometry, step_answer}

pub accepted : (n : ℕ) (g : Geometry) → n ≡ 0 → step_answer n g ≡ record { number = n; geometry = g }
unfolding step_answer
accepted n g e = rw (eq-eqb n 0 e)

pub refused : (n : ℕ) (g : Geometry) → (n ≡ 0 → ⊥) → step_answer n g ≡ record { number = n; geometry = zero_geometry }
unfolding step_answer
refused n g e = rw (ne_eqb n 0 e)

number-case : (n : ℕ) (g : Geometry) (t : Bool) → eqb n 0 ≡ t → (step_answer n g).number ≡ n
unfolding step_answer
number-case n g true e = rw e
number-case n g false e = rw e

pub number_of : (n : ℕ) (g : Geometry) → (step_answer n g).number ≡ n
number_of n g = number-case n g (eqb n 0) refl
