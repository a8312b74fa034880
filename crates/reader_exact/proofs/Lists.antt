-- Two lists of bytes pass the comparison exactly where they are equal.
-- Assumes nothing.
use mathlib.Core.Path.{◌≡◌, refl}
use mathlib.Core.Bool.{true}
use mathlib.Core.List.{List, [], ◌∷◌}
use Prim.Native.Nat.{ℕ}
use lib.Dec.{eqb}
use borrow.Author.Tests.{eqb-true, eq-eqb}
use Rattle.arith.proofs.Both.{left-true, right-true}
use Rattle.plan_same.specs.Same.{eq_list}

pub same_bytes : (xs ys : List ℕ) → eq_list eqb xs ys ≡ true → xs ≡ ys
unfolding eq_list
same_bytes [] [] e = refl
same_bytes [] (y ∷ ys) e = cc
same_bytes (x ∷ xs) [] e = cc
same_bytes (x ∷ xs) (y ∷ ys) e =
    rw (eqb-true x y (left-true (eqb x y) (eq_list eqb xs ys) e), same_bytes xs ys (right-true (eqb x y) (eq_list eqb xs ys) e)) refl

pub own-bytes : (xs : List ℕ) → eq_list eqb xs xs ≡ true
unfolding eq_list
own-bytes [] = refl
own-bytes (x ∷ xs) = rw (eq-eqb x x refl, own-bytes xs) refl
