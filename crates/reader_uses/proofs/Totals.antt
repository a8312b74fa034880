-- Totals, by the bytes: free records and free-list entries of all groups are the superblock's free count, and all blocks but heads, log and chunk.
-- Assumes nothing.
use Rattle.std.specs.Prelude.{Some, None}
use mathlib.Core.Path.{◌≡◌, ap, sym, ◌∙◌}
use mathlib.Core.Bool.{Bool, true, false, cond}
use mathlib.Core.List.{List}
use Prim.Native.Nat.{ℕ, ◌+◌, ◌*◌, ◌<◌}
use native.Mathlib.Nat.{one-mul, zero-mul}
use native.Mathlib.Omega.{arith}
use lib.Dec.{eqb}
use lib.ListN.{length}
use Rattle.seqs.specs.Lists.{total}
use Rattle.geometry.specs.declared.Geometry.{Geometry}
use Rattle.geometry.specs.Log.{prealloc_of}
use Rattle.geometry_layout.specs.Places.{chunk_of}
use Rattle.plan_site.specs.Sites.{site_of}
use Rattle.plan_free.specs.Free.{alloc_count}
use Rattle.plan.specs.declared.AgPlan.{AgPlan}
use Rattle.plan.specs.Plan.{planned}
use Rattle.plan_closed.specs.Closed.{closed_ag_plan}
use Rattle.plan_totals.specs.Totals.{free_of_plan, free_count}
use Rattle.plan_totals.proofs.Sums.{sum_same, sum-plus, only, sum-only}
use Rattle.plan_totals.proofs.Whole.{disk-adds}
use Rattle.plan_same.proofs.Planners.{planned-group}
use Rattle.plan_summary.proofs.Narrow.{plan-closed}
use Rattle.reader_decoded.specs.Decoded.{LogRun, list_in, free_records_in, chunks_in, chunk_list, log_run_in, count_in}
use Rattle.reader_uses.specs.ByUse.{free_total, list_total, chunk_total, rest_total, LeftHeads}
use Rattle.reader_uses.proofs.Decodings.{answer, full, first_group, numbered, is-plan, entries-are, lengths-are, chunks-are, log_is, count-is}

module _ (g : Geometry) (u : List ℕ) (heads : ℕ → List ℕ) (d : LeftHeads g u heads) where
  -- ---- one group

  free_of : (k : ℕ) → k < g.agcount → total alloc_count (free_records_in g (heads k)) + length (list_in g (heads k)) ≡ free_of_plan (planned g k).plan
  free_of k i = let a = lengths-are g u heads d k i in let b = entries-are g u heads d k i in omega arith

  abbrev chunk : ℕ
  chunk = chunk_of g.inodesize g.blocksize

  -- the chunk is group 0's
  chunk-at : (t : Bool) (c : ℕ) → length (chunk_list (cond t (Some c) None)) * chunk ≡ cond t chunk 0
  unfolding chunk_list
  chunk-at true c = one-mul chunk
  chunk-at false c = zero-mul chunk

  closed_is : (k : ℕ) → k < g.agcount → (planned g k).plan ≡ closed_ag_plan (site_of g k)
  closed_is k i =
      plan-closed g (planned g k).plan d.label (is-plan g u heads d k i)
      ∙ ap (λ (n : ℕ). closed_ag_plan (site_of g n)) (planned-group g k (numbered g u heads d k i))

  chunk-of : (k : ℕ) → k < g.agcount → length (chunks_in g (heads k)) * chunk ≡ only 0 chunk k
  unfolding site_of
  chunk-of k i =
      ap (λ (bs : List ℕ). length bs * chunk) (chunks-are g u heads d k i)
      ∙ ap (λ (p : AgPlan). length (chunk_list p.chunk) * chunk) (closed_is k i)
      ∙ chunk-at (eqb k 0) (site_of g k).chunk_at

  -- ---- all groups

  pub free-and-list : free_total g heads + list_total g heads ≡ free_count g
  unfolding free_total list_total free_count
  free-and-list =
      sym (sum-plus g.agcount (λ k. total alloc_count (free_records_in g (heads k))) (λ k. length (list_in g (heads k))))
      ∙ sum_same g.agcount (λ k. total alloc_count (free_records_in g (heads k)) + length (list_in g (heads k))) (λ k. free_of_plan (planned g k).plan) free_of

  pub chunk-once : chunk_total g heads ≡ chunk
  unfolding chunk_total
  chunk-once =
      sum_same g.agcount (λ k. length (chunks_in g (heads k)) * chunk) (only 0 chunk) chunk-of
      ∙ sum-only 0 chunk g.agcount (first_group g u heads d)

  -- THE SUPERBLOCK'S FREE COUNT IS WHAT THE RECORDS AND THE FREE LISTS OF ALL GROUPS HOLD
  pub free-total : free_total g heads + list_total g heads ≡ count_in (heads 0)
  free-total = free-and-list ∙ sym (count-is g u heads d)

  log-total : (log_run_in g (heads 0)).blocks ≡ g.logblocks
  log-total = ap (λ (r : LogRun). r.blocks) (log_is g u heads d)

  -- ALL BLOCKS ARE FREE, ON A FREE LIST, OF THE CHUNK, OF THE LOG OR OF A HEAD
  pub disk-total : free_total g heads + list_total g heads + chunk_total g heads + (log_run_in g (heads 0)).blocks + g.agcount * prealloc_of g.features g.sectsize g.blocksize ≡ g.dblocks
  disk-total =
      let a = free-and-list in
      let b = chunk-once in
      let c = log-total in
      let e = disk-adds g d.label (answer g u heads d) (full g u heads d) in
      omega arith

  -- THE FREE COUNT IS ALL BLOCKS − HEADS − LOG − CHUNK
  pub count-total : count_in (heads 0) ≡ rest_total g heads
  unfolding rest_total
  count-total = let a = free-total in let b = disk-total in omega arith
