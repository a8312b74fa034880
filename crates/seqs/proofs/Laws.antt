-- Laws of lists, at the place of a loop and whole.
-- Assumes nothing.
use mathlib.Core.Path.{◌≡◌, refl, sym, ap, ◌∙◌}
use mathlib.Core.Bool.{Bool, true, false, cond, ◌&&◌}
use mathlib.Core.List.{List, [], ◌∷◌, ◌++◌, append-nil}
use mathlib.Core.Logic.{◌⊎◌, inl, inr}
use Prim.Native.Nat.{ℕ, zero, suc, ◌+◌, ◌-◌, ◌≤◌, ◌<◌}
use native.Mathlib.Nat.{add-zero, le_of_suc-le-suc, not-suc-le-zero}
use native.Mathlib.Omega.{arith}
use native.Mathlib.Numerals.{add-one}
use borrow.Author.Tests.{ltb-true, ltb-false, lt-ltb}
use lib.Dec.{ltb}
use lib.ListN.{length, take, drop, get_or, set, replicate, length-append, length-drop, take-append-drop}
use lib.Seq.{slice, slice-cons, slice_empty, set-append_seam, append_snoc, take-take, length-take-le}
use Rattle.seqs.specs.Lists.{first_index, spliced, Store, packed, pushed, appended, fold, turns, total, up_from}

-- ---- tests
pub never : {X : Type 0} → false ≡ true → X
never e = let z : ◌≡◌ {A = ℕ} 0 1 = cc in absurd (omega arith)

pub both_left : (a b : Bool) → (a && b) ≡ true → a ≡ true
both_left true b e = refl
both_left false b e = e

pub both_right : (a b : Bool) → (a && b) ≡ true → b ≡ true
both_right true b e = e
both_right false b e = cc

-- a fact of both cases of a test
pub choose-elim : {A : Type 0} (P : A → Type 0) (t : Bool) (x y : A) → (t ≡ true → P x) → (t ≡ false → P y) → P (cond t x y)
choose-elim P true x y f g = f refl
choose-elim P false x y f g = g refl

lt-or-le-at : (a b : ℕ) (t : Bool) → ltb a b ≡ t → (a < b) ⊎ (b ≤ a)
lt-or-le-at a b true e = inl (ltb-true a b e)
lt-or-le-at a b false e = inr (ltb-false a b e)

pub lt-or-le : (a b : ℕ) → (a < b) ⊎ (b ≤ a)
lt-or-le a b = lt-or-le-at a b (ltb a b) refl

-- ---- the part of a list from index i up to, not including, n
module _ {A : Type 0} (xs : List A) (z : A) (n i : ℕ) where
  pub rest-cons : i < n → n ≤ length xs → slice i n xs ≡ get_or xs i z ∷ slice (i + 1) n xs
  rest-cons h k = rw add-one (slice-cons i n xs z h k)

  pub rest-nil : i ≡ n → slice i n xs ≡ []
  rest-nil e = rw e (slice_empty n xs)

-- ---- the first index
module _ {A : Type 0} (p : A → Bool) (xs : List A) (z : A) (n i : ℕ) where
  pub index-none : i ≡ n → i + first_index p (slice i n xs) ≡ i
  unfolding first_index
  index-none e = rw (rest-nil xs z n i e, add-zero)

  pub index-found : i < n → n ≤ length xs → p (get_or xs i z) ≡ true → i + first_index p (slice i n xs) ≡ i
  unfolding first_index
  index-found h k e = rw (rest-cons xs z n i h k, e, add-zero)

  pub index-step : i < n → n ≤ length xs → p (get_or xs i z) ≡ false → i + first_index p (slice i n xs) ≡ i + 1 + first_index p (slice (i + 1) n xs)
  unfolding first_index
  index-step h k e = rw (rest-cons xs z n i h k, e) (omega arith)

index-le-at : (n : ℕ) (b : Bool) (m : ℕ) → m ≤ n → cond b 0 (suc m) ≤ suc n
index-le-at n true m h = omega arith
index-le-at n false m h = omega arith

pub index-le : {A : Type 0} (p : A → Bool) (xs : List A) → first_index p xs ≤ length xs
unfolding first_index
index-le p [] = omega arith
index-le p (x ∷ xs) = index-le-at (length xs) (p x) (first_index p xs) (index-le p xs)

passes_at : {A : Type 0} (p : A → Bool) (x : A) (xs : List A) (z : A) (b : Bool) → p x ≡ b
    → (first_index p xs < length xs → p (get_or xs (first_index p xs) z) ≡ true)
    → cond b 0 (suc (first_index p xs)) < suc (length xs) → p (get_or (x ∷ xs) (cond b 0 (suc (first_index p xs))) z) ≡ true
passes_at p x xs z true e ih h = e
passes_at p x xs z false e ih h = ih (le_of_suc-le-suc h)

-- what the first index finds passes the test
pub index-passes : {A : Type 0} (p : A → Bool) (xs : List A) (z : A) → first_index p xs < length xs → p (get_or xs (first_index p xs) z) ≡ true
unfolding first_index
index-passes p [] z h = absurd (not-suc-le-zero h)
index-passes p (x ∷ xs) z h = passes_at p x xs z (p x) refl (index-passes p xs z) h

-- ---- elements put behind others
module _ {A : Type 0} (z : A) where
  pub appended-step : (o : Store A) (xs : List A) (n i : ℕ) → i < n → n ≤ length xs → appended o (slice i n xs) ≡ appended (pushed o (get_or xs i z)) (slice (i + 1) n xs)
  unfolding appended
  appended-step o xs n i h k = rw (rest-cons xs z n i h k)

  pub appended-end : (o : Store A) (xs : List A) (n i : ℕ) → i ≡ n → appended o (slice i n xs) ≡ o
  unfolding appended
  appended-end o xs n i e = rw (rest-nil xs z n i e)

  pub appended-append : (o : Store A) (xs ys : List A) → appended (appended o xs) ys ≡ appended o (xs ++ ys)
  unfolding appended
  appended-append o [] ys = refl
  appended-append o (x ∷ xs) ys = appended-append (pushed o x) xs ys

  pub pushed-packed : (xs : List A) (r : A) → length xs < 64 → pushed (packed z xs) r ≡ packed z (xs ++ r ∷ [])
  unfolding pushed
  pushed-packed xs r h =
      let n : length (xs ++ r ∷ []) ≡ length xs + 1 = simp length-append in
      let k : 64 - length xs ≡ suc (64 - length (xs ++ r ∷ [])) = omega arith in
      let e : set (xs ++ replicate (64 - length xs) z) (length xs) r ≡ (xs ++ r ∷ []) ++ replicate (64 - length (xs ++ r ∷ [])) z =
      rw k (set-append_seam xs z (replicate (64 - length (xs ++ r ∷ [])) z) r ∙ sym (append_snoc xs r (replicate (64 - length (xs ++ r ∷ [])) z))) in
      rw (lt-ltb (length xs) 64 h) (cc)

  pub appended-packed : (xs ys : List A) → length xs + length ys ≤ 64 → appended (packed z xs) ys ≡ packed z (xs ++ ys)
  unfolding appended
  appended-packed xs [] h = rw append-nil
  appended-packed xs (y ∷ ys) h =
      let n : length (xs ++ y ∷ []) ≡ length xs + 1 = simp length-append in
      rw (pushed-packed xs y (omega arith)) (appended-packed (xs ++ y ∷ []) ys (omega arith) ∙ ap (packed z) (append_snoc xs y ys))

-- ---- a part of a list replaced
pub length-put : {A : Type 0} (xs : List A) (i j : ℕ) (ys : List A) → i ≤ length xs → length (spliced xs i j ys) ≡ i + length ys + (length xs - j)
length-put xs i j ys h =
    let a : length (take i xs) ≡ i = length-take-le i xs h in
    let b : length (drop j xs) ≡ length xs - j = length-drop j xs in
    simp length-append (omega arith)

module _ {A : Type 0} (z : A) (xs : List A) (n i j : ℕ) (ys : List A) (k : n ≤ length xs) (h : i ≤ n) where
  pub length-spliced : length (spliced (take n xs) i j ys) ≡ i + length ys + (n - j)
  length-spliced = let a : length (take n xs) ≡ n = length-take-le n xs k in length-put (take n xs) i j ys (omega arith) ∙ ap (λ (m : ℕ). i + length ys + (m - j)) a

  pub splice-packed : length (spliced (take n xs) i j ys) ≤ 64
      → appended (appended (appended (packed z []) (slice 0 i xs)) ys) (slice j n xs) ≡ packed z (spliced (take n xs) i j ys)
  splice-packed m =
      appended-append z (appended (packed z []) (slice 0 i xs)) ys (slice j n xs)
      ∙ appended-append z (packed z []) (slice 0 i xs) (ys ++ slice j n xs)
      ∙ rw (← take-take i n xs h) (appended-packed z [] (spliced (take n xs) i j ys) (omega arith))

-- ---- a loop with a state
module _ {A S : Type 0} (f : S → A → S) (z : A) (s : S) (xs : List A) (n i : ℕ) where
  pub fold_step : i < n → n ≤ length xs → fold f s (slice i n xs) ≡ fold f (f s (get_or xs i z)) (slice (i + 1) n xs)
  unfolding fold
  fold_step h k = rw (rest-cons xs z n i h k)

  pub fold_end : i ≡ n → fold f s (slice i n xs) ≡ s
  unfolding fold
  fold_end e = rw (rest-nil xs z n i e)

pub turns-step : {S : Type 0} (f : S → S) (k : ℕ) (s : S) → 0 < k → turns f k s ≡ turns f (k - 1) (f s)
unfolding turns
turns-step f zero s h = absurd (not-suc-le-zero h)
turns-step f (suc k) s h = let e : suc k - 1 ≡ k = omega arith in rw e

pub turns-end : {S : Type 0} (f : S → S) (k : ℕ) (s : S) → k ≡ 0 → turns f k s ≡ s
unfolding turns
turns-end f k s e = rw e

pub up_from-step : (a n : ℕ) → 0 < n → up_from a n ≡ a ∷ up_from (a + 1) (n - 1)
unfolding up_from
up_from-step a zero h = absurd (not-suc-le-zero h)
up_from-step a (suc n) h = let e : suc n - 1 ≡ n = omega arith in rw e

-- ---- sums
module _ {A : Type 0} (g : A → ℕ) where
  pub total-cons : (x : A) (xs : List A) → total g (x ∷ xs) ≡ g x + total g xs
  unfolding total
  total-cons x xs = refl

  pub total-append : (xs ys : List A) → total g (xs ++ ys) ≡ total g xs + total g ys
  unfolding total
  total-append [] ys = omega arith
  total-append (x ∷ xs) ys = let h = total-append xs ys in omega arith

  -- one element put in
  pub total-put : (xs : List A) (p : ℕ) (x : A) → total g (spliced xs p p (x ∷ [])) ≡ total g xs + g x
  total-put xs p x =
      let a = total-append (take p xs) (x ∷ drop p xs) in
      let b = total-cons x (drop p xs) in
      let c = total-append (take p xs) (drop p xs) in
      let d : total g (take p xs ++ drop p xs) ≡ total g xs = ap (total g) (take-append-drop p xs) in
      omega arith
