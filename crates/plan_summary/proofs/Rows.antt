-- The rows of a summary are the rows of the plans.
-- Assumes nothing.
use mathlib.Core.Path.{◌≡◌, refl, sym, ap, ◌∙◌}
use mathlib.Core.Bool.{Bool, true, false, cond}
use Prim.Native.Nat.{ℕ, ◌+◌, ◌*◌, ◌-◌, ◌≤◌, ◌<◌, max}
use native.Mathlib.Omega.{arith}
use borrow.Author.Tests.{eqb-true, lt-ltb, le-ltb, ltb-true, ltb-false}
use lib.Dec.{ltb, eqb}
use lib.ListN.{length}
use Rattle.refusals.specs.Numbers.{no_place}
use Rattle.arith.specs.Choice.{when}
use Rattle.geometry.specs.declared.Geometry.{Geometry}
use Rattle.geometry_answers.specs.Named.{is_answer}
use Rattle.geometry_layout.specs.Places.{group_blocks, chunk_of}
use Rattle.geometry_places.proofs.Refused.{group-missing}
use Rattle.plan_site.specs.declared.Site.{Site}
use Rattle.plan_site.specs.Sites.{site_of, SoundSite}
use Rattle.plan_site.proofs.Sites.{site-sound}
use Rattle.plan.specs.Plan.{planned}
use Rattle.plan_closed.specs.Closed.{has_root_chunk, list_at, list_short}
use Rattle.plan_totals.specs.Totals.{plans_number, no_row, larger_count, before_chunk, after_chunk, after_list, row_of, closed_row, total_of}
use Rattle.plan_totals.proofs.Rows.{row-closed}
use Rattle.plan_totals.proofs.Whole.{all-planned, total-closed}
use Rattle.plan_summary.specs.declared.Summary.{Summary}
use Rattle.plan_summary.specs.Summaries.{summary_of, length_in, log_blocks_in, chunk_blocks_in, free_blocks_in, longest_in, row_by_summary}

when-choose : (t : Bool) (a b : ℕ) → when t a b ≡ cond t a b
unfolding when
when-choose true a b = refl
when-choose false a b = refl

larger-max-at : (a b : ℕ) (t : Bool) → ltb a b ≡ t → max a b ≡ cond t b a
larger-max-at a b true e = let h = ltb-true a b e in omega arith
larger-max-at a b false e = let h = ltb-false a b e in omega arith

larger-max : (a b : ℕ) → max a b ≡ larger_count a b
larger-max a b = larger-max-at a b (ltb a b) refl

length_at : (d s n k : ℕ) (t : Bool) → eqb k (n - 1) ≡ t → when t (d - (n - 1) * s) s ≡ when t (d - k * s) s
unfolding when
length_at d s n k true e = ap (λ (x : ℕ). d - x * s) (sym (eqb-true k (n - 1) e))
length_at d s n k false e = refl

clash : {X : Type 0} → false ≡ true → X
clash e = let z : ◌≡◌ {A = ℕ} 0 1 = cc in absurd (omega arith)

-- ---- one group

module _ (g : Geometry) (k : ℕ) where
  abbrev s : Site
  s = site_of g k

  abbrev m : Summary
  m = summary_of g

  pub length-is : length_in m k ≡ s.length
  unfolding summary_of site_of length_in group_blocks
  length-is = length_at g.dblocks g.agsize g.agcount k (eqb k (g.agcount - 1)) refl

  log_is : log_blocks_in m k ≡ cond s.has_log s.log_blocks 0
  unfolding summary_of site_of log_blocks_in
  log_is = when-choose (eqb k g.logagno) g.logblocks 0

  chunk-is : chunk_blocks_in m k ≡ cond (has_root_chunk s) s.chunk_blocks 0
  unfolding summary_of site_of chunk_blocks_in
  chunk-is = when-choose (eqb k 0) (chunk_of g.inodesize g.blocksize) 0

  abbrev freed : Bool → Bool → ℕ
  freed first log = s.length - s.head - cond log s.log_blocks 0 - s.need - cond first s.chunk_blocks 0

  free-at : (t u : Bool) → has_root_chunk s ≡ t → s.has_log ≡ u → SoundSite s
      → freed t u ≡ cond t (before_chunk s + after_chunk s) (s.length - (cond u (s.log_at + s.log_blocks) s.head + s.need))
  free-at true true e i ok = clash (sym (ok.log-not-first (eqb-true s.agno 0 e)) ∙ i)
  free-at true false e i ok =
      let a = ok.chunk-after in
      let b = ok.chunk-ends in
      let c = ok.length-least in
      omega arith
  free-at false true e i ok = let a = ok.log-after in omega arith
  free-at false false e i ok = omega arith

  -- the numbers that a summary and a site share
  pub head-is : m.head ≡ s.head
  unfolding summary_of site_of
  head-is = refl

  pub list-is : m.list ≡ s.need
  unfolding summary_of site_of
  list-is = refl

  pub chunk-at-is : m.chunk_at ≡ s.chunk_at
  unfolding summary_of site_of
  chunk-at-is = refl

  pub chunk-blocks-is : m.chunk ≡ s.chunk_blocks
  unfolding summary_of site_of
  chunk-blocks-is = refl

  first-is : has_root_chunk s ≡ eqb k 0
  unfolding site_of
  first-is = refl

  count-is : m.agcount ≡ g.agcount
  unfolding summary_of
  count-is = refl

  group-is : s.agno ≡ k
  unfolding site_of
  group-is = refl

  free-is : SoundSite s → free_blocks_in m k ≡ cond (has_root_chunk s) (before_chunk s + after_chunk s) (after_list s)
  unfolding free_blocks_in list_at
  free-is ok = rw (length-is, log_is, chunk-is, head-is, list-is) (free-at (has_root_chunk s) s.has_log refl refl ok)

  longest-at : (t : Bool) → has_root_chunk s ≡ t → SoundSite s
      → when t (max (s.chunk_at - s.head - s.need) (s.length - s.chunk_at - s.chunk_blocks)) (cond t (before_chunk s + after_chunk s) (after_list s))
      ≡ cond t (larger_count (before_chunk s) (after_chunk s)) (after_list s)
  unfolding when
  longest-at true e ok =
      let a : s.chunk_at - s.head - s.need ≡ before_chunk s = omega arith in
      let b : s.length - s.chunk_at - s.chunk_blocks ≡ after_chunk s = omega arith in
      ap (λ (x : ℕ). max x (s.length - s.chunk_at - s.chunk_blocks)) a ∙ ap (max (before_chunk s)) b ∙ larger-max (before_chunk s) (after_chunk s)
  longest-at false e ok = refl

  longest-is : SoundSite s → longest_in m k ≡ cond (has_root_chunk s) (larger_count (before_chunk s) (after_chunk s)) (after_list s)
  unfolding longest_in
  longest-is ok = rw (free-is ok, length-is, head-is, list-is, chunk-at-is, chunk-blocks-is, ← first-is) (longest-at (has_root_chunk s) refl ok)

  no-log : eqb k g.logagno ≡ false → list_short s ≡ false
  unfolding list_short site_of
  no-log e = rw e

  -- no group but the log's is short of blocks
  pub not-short-at : (t : Bool) → eqb k g.logagno ≡ t → list_short (site_of g g.logagno) ≡ false → list_short s ≡ false
  not-short-at true e h = ap (λ (x : ℕ). list_short (site_of g x)) (eqb-true k g.logagno e) ∙ h
  not-short-at false e h = no-log e

  missing : g.agcount ≤ k → row_by_summary m k ≡ no_row no_place
  unfolding row_by_summary
  missing h = rw (count-is, le-ltb k g.agcount h)

  row-there : SoundSite s → list_short s ≡ false → k < g.agcount → row_by_summary m k ≡ closed_row s
  unfolding row_by_summary closed_row length_in log_blocks_in summary_of chunk_blocks_in free_blocks_in longest_in site_of
  row-there ok full h =
      rw (count-is, lt-ltb k g.agcount h, full, longest-is ok, free-is ok, chunk-is, log_is, length-is, list-is, group-is)

-- ---- every group

module _ (g : Geometry) (l : length g.label ≡ 12) (e : plans_number g ≡ 0) where
  here : is_answer g ≡ true
  here = (all-planned g l e).0

  -- row_of above the last group is 29
  no-row : (k : ℕ) → g.agcount ≤ k → row_of g k ≡ no_row no_place
  unfolding row_of planned
  no-row k h = rw (group-missing g k here h)

  row_at : (k : ℕ) (t : Bool) → ltb k g.agcount ≡ t → row_by_summary (summary_of g) k ≡ row_of g k
  row_at k true i =
      let h = ltb-true k g.agcount i in
      row-there g k (site-sound g k l here) (not-short-at g k (eqb k g.logagno) refl (all-planned g l e).1) h
      ∙ sym (row-closed g l here k h)
  row_at k false i = missing g k (ltb-false k g.agcount i) ∙ sym (no-row k (ltb-false k g.agcount i))

  -- THE ROWS OF A SUMMARY ARE THE ROWS OF THE PLANS
  pub rows_agree : (k : ℕ) → row_by_summary (summary_of g) k ≡ row_of g k
  rows_agree k = row_at k (ltb k g.agcount) refl

  -- ITS TOTAL IS THE SUM OF THE ROWS
  pub totals-agree : (summary_of g).total ≡ total_of g
  unfolding summary_of
  totals-agree = sym (total-closed g l here (all-planned g l e).1)
