-- What holds of each element of a list.
-- Assumes nothing.
use mathlib.Core.Path.{◌≡◌, refl, sym, ap, ◌∙◌}
use mathlib.Core.Bool.{Bool, true, false, cond}
use mathlib.Core.List.Memᴰ
use mathlib.Core.List.{List, [], ◌∷◌, Memᴰ}
use mathlib.Core.Logic.{◌⊎◌, inl, inr, ⊎_elim}
use Prim.Native.Nat.{ℕ, zero, suc, ◌+◌, ◌≤◌, ◌<◌}
use native.Mathlib.Nat.{le_of_suc-le-suc, not-suc-le-zero}
use native.Mathlib.Omega.{arith}
use lib.ListN.{length, take, get_or}
use Rattle.seqs.specs.Lists.{first_index}
use Rattle.seqs.specs.Runs.{valid}
use Rattle.seqs.proofs.Parts.{Follows, ended, valid-uncons, valid-cons}

module _ {A : Type 0} where
  pub getD-mem : (xs : List A) (i : ℕ) (z : A) → i < length xs → Memᴰ (get_or xs i z) xs
  getD-mem [] i z h = absurd (not-suc-le-zero h)
  getD-mem (x ∷ xs) zero z h = Memᴰ.head refl
  getD-mem (x ∷ xs) (suc i) z h = Memᴰ.tail (getD-mem xs i z (le_of_suc-le-suc h))

  all-fail-at : (p : A → Bool) (y : A) (ys : List A) (t : Bool) → p y ≡ t → suc (length ys) ≤ cond t 0 (suc (first_index p ys))
      → ((length ys ≤ first_index p ys) → (x : A) → Memᴰ x ys → p x ≡ false) → (x : A) → Memᴰ x (y ∷ ys) → p x ≡ false
  all-fail-at p y ys true e h below x m = absurd (not-suc-le-zero h)
  all-fail-at p y ys false e h below x m = ⊎_elim (λ f. ap p f ∙ e) (λ n. below (le_of_suc-le-suc h) x n) (Memᴰ.cases_cons m)

  -- where no index is found, no element passes the test
  pub all-fail : (p : A → Bool) (xs : List A) → length xs ≤ first_index p xs → (x : A) → Memᴰ x xs → p x ≡ false
  unfolding first_index
  all-fail p [] h x m = absurd (Memᴰ.not-nil m)
  all-fail p (y ∷ ys) h x m = all-fail-at p y ys (p y) refl h (all-fail p ys) x m

before_at : {A : Type 0} (p : A → Bool) (y : A) (ys : List A) (x : A) (t : Bool) → p y ≡ t → (Memᴰ x (take (first_index p ys) ys) → p x ≡ false)
    → Memᴰ x (take (cond t 0 (suc (first_index p ys))) (y ∷ ys)) → p x ≡ false
before_at p y ys x true e below m = absurd (Memᴰ.not-nil m)
before_at p y ys x false e below m = ⊎_elim (λ f. ap p f ∙ e) below (Memᴰ.cases_cons m)

-- no element before the index that is found passes the test
pub before-fail : {A : Type 0} (p : A → Bool) (xs : List A) (x : A) → Memᴰ x (take (first_index p xs) xs) → p x ≡ false
unfolding first_index
before-fail p [] x m = absurd (Memᴰ.not-nil m)
before-fail p (y ∷ ys) x m = before_at p y ys x (p y) refl (before-fail p ys x) m

module _ {A : Type 0} (start count : A → ℕ) where
  -- a run of a valid list starts at lo or later, has blocks and ends below 2^32
  pub valid-mem : (lo : ℕ) (xs : List A) → valid start count lo xs ≡ true → (x : A) → Memᴰ x xs → Follows lo (start x) (count x)
  valid-mem lo [] v x m = absurd (Memᴰ.not-nil m)
  valid-mem lo (y ∷ ys) v x m =
      let u = valid-uncons start count lo y ys v in
      ⊎_elim
      (λ f. rw f u.0)
      (λ n. let k = valid-mem (start y + count y) ys u.1 x n in let l = u.0.low in let h = k.low in record { low = omega arith; some = k.some; high = k.high })
      (Memᴰ.cases_cons m)

  pub valid-grows : (lo : ℕ) (xs : List A) → valid start count lo xs ≡ true → lo ≤ ended start count lo xs
  valid-grows lo [] v = omega arith
  valid-grows lo (y ∷ ys) v =
      let u = valid-uncons start count lo y ys v in
      let k = valid-grows (start y + count y) ys u.1 in
      let l = u.0.low in
      omega arith

  -- and ends where the last ends, or before
  pub valid-before : (lo : ℕ) (xs : List A) → valid start count lo xs ≡ true → (x : A) → Memᴰ x xs → start x + count x ≤ ended start count lo xs
  valid-before lo [] v x m = absurd (Memᴰ.not-nil m)
  valid-before lo (y ∷ ys) v x m =
      let u = valid-uncons start count lo y ys v in
      ⊎_elim (λ f. rw f (valid-grows (start y + count y) ys u.1)) (λ n. valid-before (start y + count y) ys u.1 x n) (Memᴰ.cases_cons m)

  -- runs that all end at n or before end there
  pub ended-le : (lo n : ℕ) (xs : List A) → lo ≤ n → ((x : A) → Memᴰ x xs → start x + count x ≤ n) → ended start count lo xs ≤ n
  ended-le lo n [] h f = h
  ended-le lo n (y ∷ ys) h f = ended-le (start y + count y) n ys (f y (Memᴰ.head refl)) (λ x m. f x (Memᴰ.tail m))

  -- runs that all start at n or later may follow what ends at n
  pub valid-from : (lo n : ℕ) (xs : List A) → valid start count lo xs ≡ true → ((x : A) → Memᴰ x xs → n ≤ start x) → valid start count n xs ≡ true
  unfolding valid
  valid-from lo n [] v f = refl
  valid-from lo n (y ∷ ys) v f =
      let u = valid-uncons start count lo y ys v in
      valid-cons start count n y ys (record { low = f y (Memᴰ.head refl); some = u.0.some; high = u.0.high }) u.1

-- two runs of a valid list are the same, or one ends before the other starts
pub valid-apart : {A : Type 0} (start count : A → ℕ) (lo : ℕ) (xs : List A) → valid start count lo xs ≡ true → (x y : A) → Memᴰ x xs → Memᴰ y xs
    → (x ≡ y) ⊎ ((start x + count x ≤ start y) ⊎ (start y + count y ≤ start x))
valid-apart start count lo [] v x y m n = absurd (Memᴰ.not-nil m)
valid-apart start count lo (z ∷ zs) v x y m n =
    let u = (valid-uncons start count lo z zs v).1 in
    ⊎_elim
    (λ f. ⊎_elim (λ g. inl (f ∙ sym g)) (λ g. inr (inl (rw f (valid-mem start count (start z + count z) zs u y g).low))) (Memᴰ.cases_cons n))
    (λ f. ⊎_elim (λ g. inr (inr (rw g (valid-mem start count (start z + count z) zs u x f).low))) (λ g. valid-apart start count (start z + count z) zs u x y f g) (Memᴰ.cases_cons n))
    (Memᴰ.cases_cons m)
