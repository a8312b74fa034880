-- The library's tests of two lists of bytes are the one of the definitions.
-- Assumes nothing.
use mathlib.Core.Path.{◌≡◌, refl, ap, sym, ◌∙◌}
use mathlib.Core.Logic.{◌≢◌}
use mathlib.Core.Bool.{Bool, false, ◌&&◌}
use mathlib.Core.List.{List, [], ◌∷◌}
use Prim.Native.Nat.{ℕ}
use lib.Dec.{eqb}
use lib.ListN.{length, take}
use lib.Seq.{take-length}
use Rattle.std.specs.Cmp.Lexicographic.{pointwise, unequal, nat_list_eq_equiv}
use Rattle.plan_same.specs.Same.{eq_list}

pub same_list : (a b : List ℕ) → pointwise eqb a b ≡ eq_list eqb a b
unfolding eq_list
same_list [] [] = refl
same_list [] (y ∷ ys) = refl
same_list (x ∷ xs) [] = refl
same_list (x ∷ xs) (y ∷ ys) = ap (λ (t : Bool). eqb x y && t) (same_list xs ys)

-- lists of two lengths are not the same
pub other_length : (a b : List ℕ) → (length a ≢ length b) → false ≡ eq_list eqb a b
other_length a b n = sym (unequal eqb a b n) ∙ same_list a b

-- of two lists of one length, the test of whether one begins with the other decides
pub same_start : (a b : List ℕ) → length a ≡ length b → pointwise eqb b (take (length b) a) ≡ eq_list eqb a b
same_start a b l =
    ap (λ (n : ℕ). pointwise eqb b (take n a)) (sym l) ∙ ap (λ (t : List ℕ). pointwise eqb b t) (take-length a) ∙ nat_list_eq_equiv.symm b a ∙ same_list a b
