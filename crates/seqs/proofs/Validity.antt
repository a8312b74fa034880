-- Laws of valid lists of runs.
-- Assumes nothing.
use mathlib.Core.Path.{◌≡◌, refl, ap, ◌∙◌}
use mathlib.Core.Bool.{Bool, true, false, ◌&&◌}
use mathlib.Core.List.{List, [], ◌∷◌}
use Prim.Native.Nat.{ℕ, zero, suc, ◌+◌, ◌-◌, ◌≤◌, ◌<◌, ◌^◌}
use native.Mathlib.Nat.{le_of_suc-le-suc, not-suc-le-zero}
use native.Mathlib.Omega.{arith}
use borrow.Author.Tests.{ltb-true}
use lib.Dec.{leb, ltb}
use lib.ListN.{length, take, drop, get_or}
use lib.Seq.{slice, length-take-le, get_or-take}
use Rattle.seqs.specs.Lists.{spliced}
use Rattle.seqs.specs.Runs.{follows, valid, end_at, next_ok}
use Rattle.seqs.proofs.Laws.{both_left, both_right, rest-cons, rest-nil}

pub follows-end : (lo s c : ℕ) → follows lo s c ≡ true → ltb (s + c) (2 ^ 32) ≡ true
follows-end lo s c e = both_right (ltb 0 c) _ (both_right (leb lo s) _ e)

module _ {A : Type 0} (start count : A → ℕ) (z : A) where
  module _ (lo : ℕ) (xs : List A) (n i : ℕ) where
    pub valid-step : i < n → n ≤ length xs → follows lo (start (get_or xs i z)) (count (get_or xs i z)) ≡ true
        → valid start count lo (slice i n xs) ≡ valid start count (start (get_or xs i z) + count (get_or xs i z)) (slice (i + 1) n xs)
    unfolding valid
    valid-step h k e = rw (rest-cons xs z n i h k, e)

    pub valid-no : i < n → n ≤ length xs → follows lo (start (get_or xs i z)) (count (get_or xs i z)) ≡ false → valid start count lo (slice i n xs) ≡ false
    unfolding valid
    valid-no h k e = rw (rest-cons xs z n i h k, e)

    pub valid-end : i ≡ n → valid start count lo (slice i n xs) ≡ true
    unfolding valid
    valid-end e = rw (rest-nil xs z n i e)

  -- an element of a valid list ends below 2^32
  pub valid-at : (lo : ℕ) (xs : List A) (i : ℕ) → valid start count lo xs ≡ true → i < length xs → start (get_or xs i z) + count (get_or xs i z) < 2 ^ 32
  unfolding valid
  valid-at lo [] i v h = absurd (not-suc-le-zero h)
  valid-at lo (r ∷ rs) zero v h = ltb-true _ _ (follows-end lo (start r) (count r) (both_left (follows lo (start r) (count r)) _ v))
  valid-at lo (r ∷ rs) (suc i) v h = valid-at (start r + count r) rs i (both_right (follows lo (start r) (count r)) _ v) (le_of_suc-le-suc h)

  pub live-valid : (xs : List A) (n i : ℕ) → n ≤ length xs → i < n → valid start count 0 (take n xs) ≡ true → start (get_or xs i z) + count (get_or xs i z) < 2 ^ 32
  live-valid xs n i k h v =
      let l : length (take n xs) ≡ n = length-take-le n xs k in
      rw (← get_or-take n xs i z h) (valid-at 0 (take n xs) i v (omega arith))

-- ---- one element more in a valid list
both_true : (b : Bool) → (b && true) ≡ b
both_true true = refl
both_true false = refl

module _ {A : Type 0} (start count : A → ℕ) (z : A) where
  valid-next : (e lo : ℕ) (xs : List A) → valid start count lo xs ≡ true → valid start count e xs ≡ next_ok start count e xs
  unfolding valid
  valid-next e lo [] v = refl
  valid-next e lo (x ∷ xs) v =
      let f : (leb lo (start x) && (ltb 0 (count x) && ltb (start x + count x) (2 ^ 32))) ≡ true = both_left (follows lo (start x) (count x)) (valid start count (start x + count x) xs) v in
      let g : (ltb 0 (count x) && ltb (start x + count x) (2 ^ 32)) ≡ true = both_right (leb lo (start x)) _ f in
      rw (g, both_right (follows lo (start x) (count x)) _ v) (both_true _ ∙ both_true _)

  end_at-cons : (lo : ℕ) (x : A) (xs : List A) (p : ℕ) → end_at start count z (start x + count x) xs p ≡ end_at start count z lo (x ∷ xs) (suc p)
  end_at-cons lo x xs zero = refl
  end_at-cons lo x xs (suc q) = refl

  -- an element put at index p keeps the list valid if it may follow the one before and the next starts at its end or later
  pub valid-insert : (lo : ℕ) (xs : List A) (p : ℕ) (r : A) → p ≤ length xs → valid start count lo xs ≡ true
      → valid start count lo (spliced xs p p (r ∷ [])) ≡ (follows (end_at start count z lo xs p) (start r) (count r) && next_ok start count (start r + count r) (drop p xs))
  unfolding valid
  valid-insert lo xs zero r h v = ap (λ (t : Bool). follows lo (start r) (count r) && t) (valid-next (start r + count r) lo xs v)
  valid-insert lo [] (suc p) r h v = absurd (not-suc-le-zero h)
  valid-insert lo (x ∷ xs) (suc p) r h v =
      let g = both_left (follows lo (start x) (count x)) (valid start count (start x + count x) xs) v in
      let i = valid-insert (start x + count x) xs p r (le_of_suc-le-suc h) (both_right (follows lo (start x) (count x)) _ v) in
      rw g (i ∙ ap (λ (e : ℕ). (follows e (start r) (count r) && next_ok start count (start r + count r) (drop p xs))) (end_at-cons lo x xs p))

  pub end_at-pos : (lo : ℕ) (xs : List A) (p : ℕ) → 0 < p → end_at start count z lo xs p ≡ start (get_or xs (p - 1) z) + count (get_or xs (p - 1) z)
  end_at-pos lo xs zero h = absurd (not-suc-le-zero h)
  end_at-pos lo xs (suc q) h = let e : suc q - 1 ≡ q = omega arith in rw e
