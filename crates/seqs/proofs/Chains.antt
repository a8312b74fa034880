-- What the iterators' chains compute, in the words of the definitions.
-- Assumes nothing.
use mathlib.Core.Path.{◌≡◌, refl, sym, ap, ◌∙◌}
use mathlib.Core.Bool.{Bool, true, false, cond}
use mathlib.Core.List.{List, [], ◌∷◌}
use Prim.Native.Nat.{ℕ, zero, suc, ◌+◌, ◌-◌, ◌<◌, ◌≤◌}
use native.Mathlib.Omega.{arith}
use lib.ListN.{length, get_or, take, drop}
use lib.Seq.{slice, drop-cons}
use native.Mathlib.Numerals.{add-one}
use Rattle.std.proofs.lemmas.List.{drop-take, drop_all}
use lib.Dec.{ltb}
use borrow.Author.Tests.{ltb-true, ltb-false}
use Rattle.std.specs.Prelude.{Option, Some, None, position, unwrap_or}
use Rattle.seqs.proofs.Laws.{index-le}
use Rattle.std.proofs.lemmas.List.Recursion.{is_position_or_len}
use Rattle.std.specs.List as lists
use Rattle.seqs.specs.Lists.{first_index, Store, pushed, appended, fold, turns}
use Rattle.seqs.specs.Runs.{follows, valid}

module _ {A S : Type 0} (f : S → A → S) where
  pub folded : (s : S) (xs : List A) → lists.fold f s xs ≡ fold f s xs
  unfolding fold
  folded s [] = refl
  folded s (x ∷ xs) = folded (f s x) xs

pub folded-turns : {S : Type 0} (f : S → S) (n a : ℕ) (s : S) → lists.fold (λ t _. f t) s (lists.range_with_len a n) ≡ turns f n s
unfolding turns
folded-turns f zero a s = refl
folded-turns f (suc n) a s = folded-turns f n (a + 1) (f s)

module _ {A : Type 0} where
  pub all-pushed : (s : Store A) (xs : List A) → lists.fold pushed s xs ≡ appended s xs
  unfolding appended
  all-pushed s [] = refl
  all-pushed s (x ∷ xs) = all-pushed (pushed s x) xs

-- ---- the first place at which a test passes
at-some : (b : Bool) (n i : ℕ) → cond b (Some n) None ≡ Some i → (b ≡ true) × (i ≡ n)
at-some true n i e = (refl, cc)
at-some false n i e = (cc, cc)

at-none : (b : Bool) (n : ℕ) → cond b (Some n) None ≡ None → b ≡ false
at-none true n e = cc
at-none false n e = refl

module _ {A : Type 0} (p : A → Bool) (xs : List A) where
  place-is : first_index p xs ≡ lists.position_or_len p xs
  unfolding first_index
  place-is = is_position_or_len (first_index p) p refl (λ x ys. let e : suc (first_index p ys) ≡ 1 + first_index p ys = omega arith in ap (λ (n : ℕ). cond (p x) 0 n) e) xs

  pub found-at : (i : ℕ) → position p xs ≡ Some i → (i < length xs) × (i ≡ first_index p xs)
  found-at i e =
      let h = at-some (ltb (lists.position_or_len p xs) (length xs)) (lists.position_or_len p xs) i e in
      let l : lists.position_or_len p xs < length xs = ltb-true _ _ h.0 in
      (omega arith, h.1 ∙ sym place-is)

  pub found-nowhere : position p xs ≡ None → length xs ≤ first_index p xs
  found-nowhere e =
      let h = at-none (ltb (lists.position_or_len p xs) (length xs)) (lists.position_or_len p xs) e in
      let l : length xs ≤ lists.position_or_len p xs = ltb-false _ _ h in
      let q = place-is in
      omega arith

  or-length : (b : Bool) → ltb (first_index p xs) (length xs) ≡ b → unwrap_or (cond b (Some (first_index p xs)) None) (length xs) ≡ first_index p xs
  or-length true e = refl
  or-length false e = let l : length xs ≤ first_index p xs = ltb-false _ _ e in let m = index-le p xs in omega arith

  place-or-length : unwrap_or (position p xs) (length xs) ≡ first_index p xs
  place-or-length = rw (← place-is) (or-length (ltb (first_index p xs) (length xs)) refl)

  pub place-or : (r : Option ℕ) (n : ℕ) → r ≡ position p xs → n ≡ length xs → unwrap_or r n ≡ first_index p xs
  place-or r n e h = ap (λ (q : Option ℕ). unwrap_or q n) e ∙ ap (λ (m : ℕ). unwrap_or (position p xs) m) h ∙ place-or-length

-- ---- a part of a list
pub part-is : {A : Type 0} (xs : List A) (i j : ℕ) → i ≤ j → take (j - i) (drop i xs) ≡ slice i j xs
part-is xs i j h =
    let e : i + (j - i) ≡ j = omega arith in
    sym (rw e at (drop-take i (j - i) xs))

-- ---- whether what is left of a list is valid
module _ {A : Type 0} (start count : A → ℕ) (z : A) (lo : ℕ) (xs : List A) (i : ℕ) where
  pub rest-valid : i < length xs → follows lo (start (get_or xs i z)) (count (get_or xs i z)) ≡ true
      → valid start count lo (drop i xs) ≡ valid start count (start (get_or xs i z) + count (get_or xs i z)) (drop (i + 1) xs)
  unfolding valid
  rest-valid h e = rw (drop-cons xs i z h, e, add-one i)

  pub rest-not-valid : i < length xs → follows lo (start (get_or xs i z)) (count (get_or xs i z)) ≡ false → valid start count lo (drop i xs) ≡ false
  unfolding valid
  rest-not-valid h e = rw (drop-cons xs i z h, e)

  pub nothing-valid : length xs ≤ i → valid start count lo (drop i xs) ≡ true
  unfolding valid
  nothing-valid h = rw (drop_all i xs h)
