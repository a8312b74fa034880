-- planlist's table, by the bytes: every row and the last line are those of the plans.
-- Assumes nothing.
use Rattle.std.specs.Prelude.{Option, Some, None}
use mathlib.Core.Bool.{cond}
use mathlib.Core.Path.{◌≡◌, refl, ap, sym, ◌∙◌}
use mathlib.Core.List.{List}
use Prim.Native.Nat.{ℕ, ◌*◌, ◌<◌}
use native.Mathlib.Nat.{one-mul, zero-mul}
use lib.Dec.{eqb}
use lib.ListN.{length}
use borrow.Author.Tests.{eq-eqb}
use Rattle.seqs.specs.Lists.{total}
use Rattle.geometry.specs.declared.Geometry.{Geometry}
use Rattle.geometry_layout.specs.Places.{chunk_of}
use Rattle.plan_free.specs.Free.{alloc_count}
use Rattle.plan.specs.declared.AgPlan.{AgPlan}
use Rattle.plan.specs.Plan.{planned}
use Rattle.table_lines.specs.declared.Row.{Row}
use Rattle.table_lines.specs.declared.Total.{Total}
use Rattle.plan_totals.specs.Totals.{sum_to, chunk_blocks_of, row_from, row_of, total_of, closed_total}
use Rattle.plan_totals.proofs.Sums.{sum_same}
use Rattle.plan_totals.proofs.Whole.{total-closed}
use Rattle.reader_decoded.specs.Decoded.{LogRun, agf_in, list_in, free_records_in, chunks_in, chunk_list, log_run_in}
use Rattle.reader_uses.specs.ByUse.{free_total, list_total, chunk_total, row_by_bytes, total_in, LeftHeads}
use Rattle.reader_uses.proofs.Decodings.{answer, full, numbered, group-is, length-is, entries-are, lengths-are, longest-is, chunks-are, log_is}

abbrev row : ℕ → ℕ → ℕ → ℕ → ℕ → ℕ → ℕ → Row
row group blocks log list chunk free longest =
    record { number = 0; group = group; length = blocks; log = log; list = list; chunk = chunk; free = free; longest = longest }

same_row : {a b c d e f h a' b' c' d' e' f' h' : ℕ} → a ≡ a' → b ≡ b' → c ≡ c' → d ≡ d' → e ≡ e' → f ≡ f' → h ≡ h' → row a b c d e f h ≡ row a' b' c' d' e' f' h'
same_row p q r s t v w = cc

abbrev sums : ℕ → ℕ → ℕ → ℕ → ℕ → Total
sums blocks log list chunk free = record { length = blocks; log = log; list = list; chunk = chunk; free = free }

same-sums : {a b c d e a' b' c' d' e' : ℕ} → a ≡ a' → b ≡ b' → c ≡ c' → d ≡ d' → e ≡ e' → sums a b c d e ≡ sums a' b' c' d' e'
same-sums p q r s t = cc

chunk_count : (c : Option ℕ) (n : ℕ) → length (chunk_list c) * n ≡ chunk_blocks_of c n
unfolding chunk_list
chunk_count None n = zero-mul n
chunk_count (Some c) n = one-mul n

module _ (g : Geometry) (u : List ℕ) (heads : ℕ → List ℕ) (d : LeftHeads g u heads) where
  abbrev size : ℕ
  size = chunk_of g.inodesize g.blocksize

  module _ (k : ℕ) (i : k < g.agcount) where
    abbrev its : AgPlan
    its = (planned g k).plan

    planned-row : row_of g k ≡ row_from g k its
    unfolding row_of
    planned-row = rw (eq-eqb (planned g k).number 0 (numbered g u heads d k i))

    -- THE ROW OF A GROUP
    pub row_is : row_by_bytes g (heads 0) (heads k) k ≡ row_of g k
    unfolding row_by_bytes
    row_is =
        same_row (group-is g u heads d k i) (length-is g u heads d k i)
        (ap (λ (r : LogRun). cond (eqb k r.group) r.blocks 0) (log_is g u heads d))
        (entries-are g u heads d k i)
        (ap (λ (bs : List ℕ). length bs * size) (chunks-are g u heads d k i) ∙ chunk_count its.chunk size)
        (lengths-are g u heads d k i) (longest-is g u heads d k i)
        ∙ sym planned-row

  -- the sum of a number of each row
  row-sum : (f : ℕ → ℕ) (h : Row → ℕ) → ((k : ℕ) → f k ≡ h (row_by_bytes g (heads 0) (heads k) k)) → sum_to g.agcount f ≡ sum_to g.agcount (λ k. h (row_of g k))
  row-sum f h e = sum_same g.agcount f (λ k. h (row_of g k)) (λ k i. e k ∙ ap h (row_is k i))

  log-sum : (log_run_in g (heads 0)).blocks ≡ (total_of g).log
  unfolding closed_total
  log-sum = ap (λ (r : LogRun). r.blocks) (log_is g u heads d) ∙ sym (ap (λ (t : Total). t.log) (total-closed g d.label (answer g u heads d) (full g u heads d)))

  -- THE LAST LINE
  pub total-is : total_in g heads ≡ total_of g
  unfolding total_in total_of list_total chunk_total free_total row_by_bytes
  total-is =
      same-sums (row-sum (λ k. (agf_in g (heads k)).length) (λ r. r.length) (λ k. refl)) log-sum
      (row-sum (λ k. length (list_in g (heads k))) (λ r. r.list) (λ k. refl))
      (row-sum (λ k. length (chunks_in g (heads k)) * size) (λ r. r.chunk) (λ k. refl))
      (row-sum (λ k. total alloc_count (free_records_in g (heads k))) (λ r. r.free) (λ k. refl))
