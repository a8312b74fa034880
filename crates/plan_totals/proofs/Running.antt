-- The running numbers over a plan's free records: each from the one before, and none above the last.
-- Assumes nothing.
use mathlib.Core.Path.{◌≡◌, refl, ◌∙◌}
use mathlib.Core.Bool.{Bool, true, false, cond}
use mathlib.Core.List.{List, [], ◌∷◌}
use Prim.Native.Nat.{ℕ, zero, suc, ◌+◌, ◌^◌, ◌≤◌, ◌<◌}
use native.Mathlib.Nat.{not-suc-le-zero}
use native.Mathlib.Numerals.{add-one}
use native.Mathlib.Omega.{arith}
use lib.Dec.{ltb}
use lib.ListN.{length, get_or, take}
use borrow.Author.Tests.{ltb-true}
use Rattle.seqs.specs.Lists.{fold}
use Rattle.btree.specs.declared.records.AllocRec.{AllocRec}
use Rattle.plan_free.specs.declared.FreeList.{FreeList}
use Rattle.plan_free.specs.Free.{free_of}
use Rattle.plan_totals.specs.Totals.{add_count, larger_count, max_count, freeblks_of, longest_of, NarrowRecords}

-- ---- a state that only grows

module _ (f : ℕ → AllocRec → ℕ) (up : (s : ℕ) (r : AllocRec) → s ≤ f s r) where
  grows : (s : ℕ) (xs : List AllocRec) → s ≤ fold f s xs
  unfolding fold
  grows s [] = omega arith
  grows s (x ∷ xs) = let a = up s x in let b = grows (f s x) xs in omega arith

  prefix-least : (n s : ℕ) (xs : List AllocRec) → fold f s (take n xs) ≤ fold f s xs
  unfolding fold
  prefix-least zero s xs = grows s xs
  prefix-least (suc n) s [] = omega arith
  prefix-least (suc n) s (x ∷ xs) = prefix-least n (f s x) xs

larger-up-at : (a b : ℕ) (t : Bool) → ltb a b ≡ t → a ≤ cond t b a
larger-up-at a b true e = let h = ltb-true a b e in omega arith
larger-up-at a b false e = omega arith

larger-up : (a b : ℕ) → a ≤ larger_count a b
larger-up a b = larger-up-at a b (ltb a b) refl

-- where blocks and longest are below 2^30, so is every running number
pub records-narrow : (l : FreeList) → freeblks_of l < 2 ^ 30 → longest_of l < 2 ^ 30 → NarrowRecords l
unfolding freeblks_of longest_of
records-narrow l h k =
    record {
      total = λ n. let p = prefix-least add_count (λ s r. omega arith) n 0 (free_of l) in omega arith;
      longest = λ n. let p = prefix-least max_count (λ s r. larger-up s r.count) n 0 (free_of l) in omega arith;
    }

-- ---- one turn of a loop over the records

module _ {A S : Type 0} (f : S → A → S) (z : A) where
  next-at : (s : S) (xs : List A) (n i : ℕ) → i < n → n ≤ length xs → fold f s (take (suc i) (take n xs)) ≡ f (fold f s (take i (take n xs))) (get_or xs i z)
  unfolding fold
  next-at s [] n i h k = absurd (omega arith)
  next-at s (x ∷ xs) zero i h k = absurd (not-suc-le-zero h)
  next-at s (x ∷ xs) (suc n) zero h k = refl
  next-at s (x ∷ xs) (suc n) (suc i) h k = next-at (f s x) xs n i (omega arith) (omega arith)

  pub running-next : (s : S) (xs : List A) (n i : ℕ) → i < n → n ≤ length xs → fold f s (take (i + 1) (take n xs)) ≡ f (fold f s (take i (take n xs))) (get_or xs i z)
  running-next s xs n i h k = rw (add-one i) (next-at s xs n i h k)

  -- the last one is the whole
  pub running-last : (s : S) (xs : List A) (n : ℕ) → fold f s (take n (take n xs)) ≡ fold f s (take n xs)
  unfolding fold
  running-last s xs zero = refl
  running-last s [] (suc n) = refl
  running-last s (x ∷ xs) (suc n) = running-last (f s x) xs n
