-- The row of every group of an answer by plain arithmetic.
-- Assumes nothing.
use Rattle.std.specs.Prelude.{Some, None}
use mathlib.Core.Path.{◌≡◌, refl, sym, ap, ◌∙◌}
use mathlib.Core.Bool.{Bool, true, false, cond}
use mathlib.Core.Logic.{⊎_elim}
use mathlib.Core.List.{List, [], ◌∷◌, ◌++◌}
use Prim.Native.Nat.{ℕ, ◌+◌, ◌-◌, ◌<◌}
use native.Mathlib.Omega.{arith}
use borrow.Author.Tests.{ltb-false, lt-ltb, le-ltb}
use lib.Dec.{ltb, eqb}
use lib.ListN.{length}
use Rattle.refusals.specs.Numbers.{free_list_short}
use Rattle.seqs.specs.Lists.{fold}
use Rattle.seqs.proofs.Laws.{lt-or-le}
use Rattle.geometry.specs.declared.Geometry.{Geometry}
use Rattle.geometry_answers.specs.Named.{is_answer}
use Rattle.btree.specs.declared.records.AllocRec.{AllocRec}
use Rattle.plan_site.specs.declared.Site.{Site}
use Rattle.plan_site.specs.Sites.{site_of}
use Rattle.plan_free.specs.Free.{pack_free}
use Rattle.plan_free.proofs.Uses.{free-packed}
use Rattle.plan.specs.Plan.{gap, refused_plan}
use Rattle.plan_closed.specs.Closed.{has_root_chunk, list_at, closed_free, closed_list, list_short, closed_ag_plan, closed_plan}
use Rattle.plan_closed.proofs.Filling.{length_up}
use Rattle.plan_closed.proofs.Planning.{closed-plan}
use Rattle.plan_totals.specs.Totals.{add_count, larger_count, max_count, freeblks_of, longest_of, no_row, chunk_blocks_of, row_from, row_of, before_chunk, after_chunk, after_list, closed_row}

-- ---- the blocks of gaps

larger-none : (n : ℕ) → larger_count n 0 ≡ n
larger-none n = rw (le-ltb n 0 (omega arith))

larger-some-at : (n : ℕ) (t : Bool) → ltb 0 n ≡ t → cond t n 0 ≡ n
larger-some-at n true e = refl
larger-some-at n false e = let h = ltb-false 0 n e in omega arith

larger-some : (n : ℕ) → larger_count 0 n ≡ n
larger-some n = larger-some-at n (ltb 0 n) refl

module _ (n a b : ℕ) where
  sum-gap : fold add_count n (gap a b) ≡ n + (b - a)
  unfolding fold
  sum-gap = ⊎_elim (λ l. rw (lt-ltb a b l)) (λ l. rw (le-ltb a b l) (omega arith)) (lt-or-le a b)

  longest-gap : fold max_count n (gap a b) ≡ larger_count n (b - a)
  unfolding fold
  longest-gap = ⊎_elim (λ l. rw (lt-ltb a b l)) (λ l. let e : b - a ≡ 0 = omega arith in rw (le-ltb a b l, e) (sym (larger-none n))) (lt-or-le a b)

fold-append : (f : ℕ → AllocRec → ℕ) (n : ℕ) (xs ys : List AllocRec) → fold f n (xs ++ ys) ≡ fold f (fold f n xs) ys
unfolding fold
fold-append f n [] ys = refl
fold-append f n (x ∷ xs) ys = fold-append f (f n x) xs ys

module _ (a b c d : ℕ) where
  sum-gaps : fold add_count 0 (gap a b ++ gap c d) ≡ (b - a) + (d - c)
  sum-gaps = fold-append add_count 0 (gap a b) (gap c d) ∙ ap (λ (n : ℕ). fold add_count n (gap c d)) (sum-gap 0 a b) ∙ sum-gap (0 + (b - a)) c d ∙ omega arith

  longest-gaps : fold max_count 0 (gap a b ++ gap c d) ≡ larger_count (b - a) (d - c)
  longest-gaps = fold-append max_count 0 (gap a b) (gap c d) ∙ ap (λ (n : ℕ). fold max_count n (gap c d)) (longest-gap 0 a b ∙ larger-some (b - a)) ∙ longest-gap (b - a) c d

-- ---- the parts of a row

module _ (s : Site) where
  free-at : (t : Bool)
      → fold add_count 0 (cond t (gap (s.head + s.need) s.chunk_at ++ gap (s.chunk_at + s.chunk_blocks) s.length) (gap (list_at s + s.need) s.length))
      ≡ cond t (before_chunk s + after_chunk s) (after_list s)
  free-at true = sum-gaps (s.head + s.need) s.chunk_at (s.chunk_at + s.chunk_blocks) s.length
  free-at false = sum-gap 0 (list_at s + s.need) s.length ∙ omega arith

  pub free-is : freeblks_of (pack_free (closed_free s)) ≡ cond (has_root_chunk s) (before_chunk s + after_chunk s) (after_list s)
  unfolding freeblks_of closed_free
  free-is = rw (free-packed (closed_free s)) (free-at (has_root_chunk s))

  longest-at : (t : Bool)
      → fold max_count 0 (cond t (gap (s.head + s.need) s.chunk_at ++ gap (s.chunk_at + s.chunk_blocks) s.length) (gap (list_at s + s.need) s.length))
      ≡ cond t (larger_count (before_chunk s) (after_chunk s)) (after_list s)
  longest-at true = longest-gaps (s.head + s.need) s.chunk_at (s.chunk_at + s.chunk_blocks) s.length
  longest-at false = longest-gap 0 (list_at s + s.need) s.length ∙ larger-some (after_list s)

  pub longest-is : longest_of (pack_free (closed_free s)) ≡ cond (has_root_chunk s) (larger_count (before_chunk s) (after_chunk s)) (after_list s)
  unfolding longest_of closed_free
  longest-is = rw (free-packed (closed_free s)) (longest-at (has_root_chunk s))

  pub list-is : length (closed_list s) ≡ s.need
  unfolding closed_list
  list-is = length_up (list_at s) s.need

chunk-at : (t : Bool) (a n : ℕ) → chunk_blocks_of (cond t (Some a) None) n ≡ cond t n 0
chunk-at true a n = refl
chunk-at false a n = refl

-- the row of a plan in closed form
module _ (g : Geometry) (k : ℕ) where
  row_at : (t : Bool) → list_short (site_of g k) ≡ t
      → cond (eqb (cond t (refused_plan free_list_short) (record { number = 0; plan = closed_ag_plan (site_of g k) })).number 0)
      (row_from g k (cond t (refused_plan free_list_short) (record { number = 0; plan = closed_ag_plan (site_of g k) })).plan)
      (no_row (cond t (refused_plan free_list_short) (record { number = 0; plan = closed_ag_plan (site_of g k) })).number)
      ≡ closed_row (site_of g k)
  unfolding closed_row site_of
  row_at true e = rw e
  row_at false e = rw (e, free-is (site_of g k), longest-is (site_of g k), list-is (site_of g k), chunk-at (eqb k 0) (site_of g k).chunk_at (site_of g k).chunk_blocks)

-- THE ROW OF EVERY GROUP OF AN ANSWER
pub row-closed : (g : Geometry) → length g.label ≡ 12 → is_answer g ≡ true → (k : ℕ) → k < g.agcount → row_of g k ≡ closed_row (site_of g k)
unfolding row_of closed_plan
row-closed g l h k i = rw (closed-plan g l h k i) (row_at g k (list_short (site_of g k)) refl)
