-- What the chains over a plan's free records compute, in the words of the definitions.
-- Assumes nothing.
use mathlib.Core.Path.{◌≡◌, refl, sym, ap, ◌∙◌}
use mathlib.Core.Bool.{Bool, true, false, cond}
use mathlib.Core.List.{List, [], ◌∷◌}
use Prim.Native.Nat.{ℕ, ◌^◌, ◌<◌, max}
use native.Mathlib.Omega.{arith}
use borrow.Author.Tests.{ltb-true, ltb-false}
use lib.Dec.{ltb}
use Rattle.std.specs.List as lists
use Rattle.seqs.specs.Lists.{fold}
use Rattle.btree.specs.declared.records.AllocRec.{AllocRec}
use Rattle.plan_free.specs.declared.FreeList.{FreeList}
use Rattle.plan_free.specs.Free.{free_of, zero_free_rec}
use Rattle.plan_totals.specs.Totals.{add_count, larger_count, max_count, freeblks_of, NarrowRecords}
use Rattle.plan_totals.proofs.Running.{running-last}

folded : {A S : Type 0} (f : S → A → S) (s : S) (xs : List A) → lists.fold f s xs ≡ fold f s xs
unfolding fold
folded f s [] = refl
folded f s (x ∷ xs) = folded f (f s x) xs

larger-at : (t : Bool) (a b : ℕ) → ltb a b ≡ t → max a b ≡ cond t b a
larger-at true a b e = omega (arith, ltb-true a b e)
larger-at false a b e = omega (arith, ltb-false a b e)

pub larger-is : (a b : ℕ) → max a b ≡ larger_count a b
larger-is a b = larger-at (ltb a b) a b refl

pub blocks-are : (l : FreeList) → freeblks_of l ≡ lists.sum_by (λ r. r.count) (free_of l)
unfolding freeblks_of
blocks-are l = sym (folded add_count 0 (free_of l))

pub blocks-fit : (l : FreeList) → NarrowRecords l → lists.sum_by (λ r. r.count) (free_of l) < 2 ^ 32
blocks-fit l n = omega (arith, n.total l.len, running-last add_count zero_free_rec 0 l.recs l.len, folded add_count 0 (free_of l))

pub longests : (s : ℕ) (xs : List AllocRec) → lists.fold (λ m r. max m r.count) s xs ≡ fold max_count s xs
unfolding fold
longests s [] = refl
longests s (x ∷ xs) = ap (λ (m : ℕ). lists.fold (λ n r. max n r.count) m xs) (larger-is s x.count) ∙ longests (larger_count s x.count) xs
