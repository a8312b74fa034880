-- What one turn of a comparing loop says, over any element.
-- Assumes nothing.
use mathlib.Core.Path.{◌≡◌, refl, ap, ◌∙◌}
use mathlib.Core.Bool.{Bool, true, false, ◌&&◌}
use mathlib.Core.List.{List}
use Prim.Native.Nat.{ℕ, ◌+◌, ◌<◌}
use native.Mathlib.Numerals.{add-one}
use lib.ListN.{length, get_or, drop}
use lib.Seq.{drop-cons, drop-length}
use Rattle.plan_same.specs.Same.{eq_list}

module _ {A : Type 0} (same : A → A → Bool) (z : A) (a b : List A) (i : ℕ) where
  split : i < length a → i < length b → eq_list same (drop i a) (drop i b) ≡ (same (get_or a i z) (get_or b i z) && eq_list same (drop (i + 1) a) (drop (i + 1) b))
  unfolding eq_list
  split h k = rw (drop-cons a i z h, drop-cons b i z k, add-one i) refl

  pub agree : i < length a → i < length b → same (get_or a i z) (get_or b i z) ≡ true → eq_list same (drop i a) (drop i b) ≡ eq_list same (drop (i + 1) a) (drop (i + 1) b)
  agree h k e = split h k ∙ rw e refl

  pub differ : i < length a → i < length b → same (get_or a i z) (get_or b i z) ≡ false → eq_list same (drop i a) (drop i b) ≡ false
  differ h k e = split h k ∙ rw e refl

  pub ended : i ≡ length a → i ≡ length b → eq_list same (drop i a) (drop i b) ≡ true
  unfolding eq_list
  ended h k = ap (λ (n : ℕ). eq_list same (drop n a) (drop i b)) h ∙ ap (λ (n : ℕ). eq_list same (drop (length a) a) (drop n b)) k ∙ rw (drop-length a, drop-length b) refl
