-- Valid lists of runs taken apart and put together.
-- Assumes nothing.
use mathlib.Core.Path.{◌≡◌, refl, sym, ap, ◌∙◌}
use mathlib.Core.Bool.{true, ◌&&◌}
use mathlib.Core.List.{List, [], ◌∷◌, ◌++◌}
use Prim.Native.Nat.{ℕ, ◌+◌, ◌≤◌, ◌<◌, ◌^◌}
use native.Mathlib.Omega.{arith}
use native.Mathlib.Numerals.{add-one}
use borrow.Author.Tests.{leb-true, ltb-true, le-leb, lt-ltb}
use lib.Dec.{leb, ltb}
use lib.ListN.{length, take, drop, get_or}
use lib.Seq.{split_at}
use Rattle.seqs.specs.Runs.{follows, valid}
use Rattle.seqs.proofs.Laws.{both_left, both_right}

-- what it means that a run may follow what ends at lo
pub record Follows (lo s c : ℕ) : Type 0 where
  pub low : lo ≤ s
  pub some : 0 < c
  pub high : s + c < 2 ^ 32

pub follows-facts : (lo s c : ℕ) → follows lo s c ≡ true → Follows lo s c
follows-facts lo s c e =
    let r : (ltb 0 c && ltb (s + c) (2 ^ 32)) ≡ true = both_right (leb lo s) _ e in
    record {
      low = leb-true _ _ (both_left (leb lo s) (ltb 0 c && ltb (s + c) (2 ^ 32)) e);
      some = ltb-true _ _ (both_left (ltb 0 c) (ltb (s + c) (2 ^ 32)) r);
      high = ltb-true _ _ (both_right (ltb 0 c) (ltb (s + c) (2 ^ 32)) r);
    }

pub facts-follow : (lo s c : ℕ) → Follows lo s c → follows lo s c ≡ true
facts-follow lo s c f = rw (le-leb lo s f.low, lt-ltb 0 c f.some, lt-ltb (s + c) (2 ^ 32) f.high)

module _ {A : Type 0} (start count : A → ℕ) where
  -- where the last of the runs ends, or lo
  abbrev pub ended : ℕ → List A → ℕ
  ended lo [] = lo
  ended lo (x ∷ xs) = ended (start x + count x) xs

  pub valid-uncons : (lo : ℕ) (x : A) (xs : List A) → valid start count lo (x ∷ xs) ≡ true → Follows lo (start x) (count x) × (valid start count (start x + count x) xs ≡ true)
  unfolding valid
  valid-uncons lo x xs v =
      (follows-facts lo (start x) (count x) (both_left (follows lo (start x) (count x)) (valid start count (start x + count x) xs) v), both_right (follows lo (start x) (count x)) (valid start count (start x + count x) xs) v)

  pub valid-cons : (lo : ℕ) (x : A) (xs : List A) → Follows lo (start x) (count x) → valid start count (start x + count x) xs ≡ true → valid start count lo (x ∷ xs) ≡ true
  unfolding valid
  valid-cons lo x xs f v = rw (facts-follow lo (start x) (count x) f) v

  -- what may follow a later end may follow an earlier one
  pub valid-lower : (lo low : ℕ) (xs : List A) → low ≤ lo → valid start count lo xs ≡ true → valid start count low xs ≡ true
  unfolding valid
  valid-lower lo low [] h v = refl
  valid-lower lo low (x ∷ xs) h v =
      let u = valid-uncons lo x xs v in
      valid-cons low x xs (record { low = omega arith; some = u.0.some; high = u.0.high }) u.1

  pub valid-join : (lo : ℕ) (xs ys : List A) → valid start count lo xs ≡ true → valid start count (ended lo xs) ys ≡ true → valid start count lo (xs ++ ys) ≡ true
  valid-join lo [] ys v w = w
  valid-join lo (x ∷ xs) ys v w =
      let u = valid-uncons lo x xs v in
      valid-cons lo x (xs ++ ys) u.0 (valid-join (start x + count x) xs ys u.1 w)

  pub valid-unjoin : (lo : ℕ) (xs ys : List A) → valid start count lo (xs ++ ys) ≡ true → (valid start count lo xs ≡ true) × (valid start count (ended lo xs) ys ≡ true)
  unfolding valid
  valid-unjoin lo [] ys v = (refl, v)
  valid-unjoin lo (x ∷ xs) ys v =
      let u = valid-uncons lo x (xs ++ ys) v in
      let w = valid-unjoin (start x + count x) xs ys u.1 in
      (valid-cons lo x xs u.0 w.0, w.1)

  -- the runs before index i, the one there, and those behind it
  pub record Parts (lo : ℕ) (z : A) (xs : List A) (i : ℕ) : Type 0 where
    pub before : valid start count lo (take i xs) ≡ true
    pub at : Follows (ended lo (take i xs)) (start (get_or xs i z)) (count (get_or xs i z))
    pub behind : valid start count (start (get_or xs i z) + count (get_or xs i z)) (drop (i + 1) xs) ≡ true

  pub valid-parts : (lo : ℕ) (z : A) (xs : List A) (i : ℕ) → i < length xs → valid start count lo xs ≡ true → Parts lo z xs i
  valid-parts lo z xs i h v =
      let e : xs ≡ take i xs ++ get_or xs i z ∷ drop (i + 1) xs = rw add-one (split_at xs i z h) in
      let w = valid-unjoin lo (take i xs) (get_or xs i z ∷ drop (i + 1) xs) (ap (valid start count lo) (sym e) ∙ v) in
      let u = valid-uncons (ended lo (take i xs)) (get_or xs i z) (drop (i + 1) xs) w.1 in
      record { before = w.0; at = u.0; behind = u.1 }
