-- Every running number of a group with an accepted plan is below 2^30.
-- Assumes nothing.
use mathlib.Core.Path.{◌≡◌, refl, sym, ap, ◌∙◌}
use mathlib.Core.Bool.{Bool, true, false, cond}
use mathlib.Core.List.{List}
use Prim.Native.Nat.{ℕ, ◌+◌, ◌-◌, ◌^◌, ◌≤◌, ◌<◌, max}
use native.Mathlib.Omega.{arith}
use lib.Dec.{ltb, eqb}
use lib.ListN.{length, length-append}
use Rattle.refusals.specs.Numbers.{free_list_short}
use Rattle.arith.specs.Choice.{when}
use Rattle.seqs.proofs.Laws.{choose-elim}
use Rattle.geometry.specs.declared.Geometry.{Geometry}
use Rattle.geometry_answers.specs.Named.{is_answer}
use Rattle.geometry_layout.specs.Bounds.{Bounds}
use Rattle.geometry_layout.proofs.Bounding.{answer-bounds}
use Rattle.geometry_layout.proofs.Small.{freelist-most}
use Rattle.geometry_places.proofs.Refused.{a-group}
use Rattle.btree.specs.declared.records.AllocRec.{AllocRec}
use Rattle.plan_site.specs.declared.Site.{Site}
use Rattle.plan_site.specs.Sites.{site_of, SoundSite}
use Rattle.plan_site.proofs.Sites.{site-sound}
use Rattle.plan_free.specs.Free.{pack_free}
use Rattle.plan.specs.declared.AgPlan.{AgPlan}
use Rattle.plan.specs.declared.Planned.{Planned}
use Rattle.plan.specs.Plan.{gap, refused_plan}
use Rattle.plan_closed.specs.Closed.{has_root_chunk, list_at, list_short, closed_free, closed_ag_plan, closed_plan}
use Rattle.plan_closed.proofs.Planning.{closed-plan, planned-plan}
use Rattle.plan_same.specs.Same.{is_plan}
use Rattle.plan_same.proofs.Planners.{planned-there, is-plan-number, is-plan-same}
use Rattle.plan_totals.specs.Totals.{plans_number, larger_count, freeblks_of, longest_of, before_chunk, after_chunk, NarrowRecords}
use Rattle.plan_totals.proofs.Rows.{free-is, longest-is}
use Rattle.plan_totals.proofs.Running.{records-narrow}
use Rattle.plan_totals.proofs.Whole.{all-planned}
use Rattle.plan_summary.specs.declared.Summary.{Summary}
use Rattle.plan_summary.specs.Summaries.{summary_of, length_in, log_blocks_in, chunk_blocks_in, free_blocks_in, longest_in}
use Rattle.plan_summary.specs.Narrow.{NarrowSummary, NarrowRow, NarrowLog, NarrowGroup}
use Rattle.plan_summary.proofs.Laws.{last_fits}
use Rattle.plan_summary.proofs.Rows.{length-is, chunk-at-is, chunk-blocks-is, not-short-at}

-- ---- the free records of a site

gap-few : (a b : ℕ) → length (gap a b) ≤ 1
gap-few a b = choose-elim (λ (l : List AllocRec). length l ≤ 1) (ltb a b) _ _ (λ t. omega arith) (λ t. omega arith)

pub free-few : (s : Site) → length (closed_free s) ≤ 2
unfolding closed_free
free-few s =
    choose-elim (λ (l : List AllocRec). length l ≤ 2) (has_root_chunk s) _ _
    (λ t. let n = length-append (gap (s.head + s.need) s.chunk_at) (gap (s.chunk_at + s.chunk_blocks) s.length) in
    let a = gap-few (s.head + s.need) s.chunk_at in
    let b = gap-few (s.chunk_at + s.chunk_blocks) s.length in
    omega arith)
    (λ t. let a = gap-few (list_at s + s.need) s.length in omega arith)

larger-most : (a b n : ℕ) → a < n → b < n → larger_count a b < n
larger-most a b n h k = choose-elim (λ (x : ℕ). x < n) (ltb a b) b a (λ t. k) (λ t. h)

pub free-least : (s : Site) → SoundSite s → freeblks_of (pack_free (closed_free s)) < 2 ^ 30
free-least s ok =
    let l = ok.length_most in
    let m = ok.length-least in
    let c = ok.chunk-ends in
    let d = ok.chunk-least in
    rw (free-is s) (choose-elim (λ (x : ℕ). x < 2 ^ 30) (has_root_chunk s) _ _ (λ t. omega arith) (λ t. omega arith))

pub longest-least : (s : Site) → SoundSite s → longest_of (pack_free (closed_free s)) < 2 ^ 30
longest-least s ok =
    let l = ok.length_most in
    let c = ok.chunk-ends in
    rw (longest-is s) (choose-elim (λ (x : ℕ). x < 2 ^ 30) (has_root_chunk s) _ _
    (λ t. larger-most (before_chunk s) (after_chunk s) (2 ^ 30) (omega arith) (omega arith)) (λ t. omega arith))

site-records : (s : Site) → SoundSite s → NarrowRecords (pack_free (closed_free s))
site-records s ok = records-narrow (pack_free (closed_free s)) (free-least s ok) (longest-least s ok)

-- ---- a plan of the planner in closed form

plan-at : (t : Bool) (p : AgPlan) → (cond {A = Planned} t (refused_plan free_list_short) (record { number = 0; plan = p })).number ≡ 0
    → (cond {A = Planned} t (refused_plan free_list_short) (record { number = 0; plan = p })).plan ≡ p
plan-at true p e = absurd (omega arith)
plan-at false p e = refl

module _ (g : Geometry) (p : AgPlan) (l : length g.label ≡ 12) (h : is_plan g p ≡ true) where
  abbrev its : Site
  its = site_of g p.agno

  pub plan-answer : (is_answer g ≡ true) × (p.agno < g.agcount)
  plan-answer = a-group g p.agno (planned-there g p.agno (is-plan-number g p h))

  pub plan-closed : p ≡ closed_ag_plan its
  unfolding closed_plan
  plan-closed =
      let e = closed-plan g l plan-answer.0 p.agno plan-answer.1 in
      is-plan-same g p h ∙ ap (λ (x : Planned). x.plan) e
      ∙ plan-at (list_short its) (closed_ag_plan its) (sym (ap (λ (x : Planned). x.number) e) ∙ is-plan-number g p h)

  -- NO RUNNING NUMBER OVER THE RECORDS OF A PLAN THAT IS HANDED IN REACHES 2^30
  pub plan-records : (p.free.len ≤ 2) × NarrowRecords p.free
  plan-records = rw plan-closed (free-few its, site-records its (site-sound g p.agno l plan-answer.0))

-- ---- the row of a group

when-least : (t : Bool) (a b n : ℕ) → a < n → b < n → when t a b < n
unfolding when
when-least true a b n h k = h
when-least false a b n h k = k

log-blocks-is : (g : Geometry) (k : ℕ) → (summary_of g).logblocks ≡ (site_of g k).log_blocks
unfolding summary_of site_of
log-blocks-is g k = refl

module _ (g : Geometry) (k : ℕ) (ok : SoundSite (site_of g k)) where
  abbrev m : Summary
  m = summary_of g

  length-least : length_in m k < 2 ^ 30
  length-least = rw (length-is g k) ok.length_most

  chunk_inside : m.chunk_at + m.chunk ≤ 80
  chunk_inside = rw (chunk-at-is g k, chunk-blocks-is g k) ok.chunk-ends

  log-least : m.logblocks < 2 ^ 30
  log-least = rw (log-blocks-is g k) ok.log-most

  row-narrow : NarrowRow m k
  unfolding log_blocks_in chunk_blocks_in free_blocks_in longest_in
  row-narrow =
      let n = length-least in
      let c = chunk_inside in
      record {
        length = n;
        log = when-least (eqb k m.logagno) m.logblocks 0 (2 ^ 30) log-least (omega arith);
        chunk = when-least (eqb k 0) m.chunk 0 (2 ^ 30) (omega arith) (omega arith);
        after-head = omega arith;
        after-log = omega arith;
        after_list = omega arith;
        free = omega arith;
        head-to-chunk = omega arith;
        list-to-chunk = omega arith;
        from-chunk = omega arith;
        after-chunk = omega arith;
        longest = when-least (eqb k 0) (max (m.chunk_at - m.head - m.list) (length_in m k - m.chunk_at - m.chunk)) (length_in m k - m.head - log_blocks_in m k - m.list - chunk_blocks_in m k) (2 ^ 30) (omega arith) (omega arith);
      }

-- ---- the numbers of every answer

module _ (g : Geometry) (l : length g.label ≡ 12) (h : is_answer g ≡ true) where
  b : Bounds g
  b = answer-bounds g l h

  summary-narrow : NarrowSummary (summary_of g)
  unfolding summary_of
  summary-narrow =
      let n = b.places.log-blocks in
      let a = b.places.head-most in
      let f = freelist-most g.features in
      let c = b.places.chunk-room in
      record {
        agsize = b.groups.group-most;
        last = last_fits g l h;
        logblocks = omega arith;
        head = omega arith;
        list = omega arith;
        chunk-at = omega arith;
        chunk = omega arith;
      }

  log-narrow : (k : ℕ) → NarrowLog (site_of g k)
  unfolding site_of
  log-narrow k =
      let r = b.places.log-room in
      let n = b.groups.group-most in
      let m = (site-sound g k l h).length_most in
      record { log-end = omega arith; behind = omega arith }

-- EVERY RUNNING NUMBER OF EVERY GROUP OF A GEOMETRY WITH ACCEPTED PLANS IS BELOW 2^30
pub narrow : (g : Geometry) → length g.label ≡ 12 → plans_number g ≡ 0 → (k : ℕ) → k < g.agcount → NarrowGroup g k
narrow g l e k i =
    let a = all-planned g l e in
    let ok = site-sound g k l a.0 in
    let p = planned-plan g l a.0 k i (not-short-at g k (eqb k g.logagno) refl a.1) in
    record {
      records = rw p (site-records (site_of g k) ok);
      summary = summary-narrow g l a.0;
      row = row-narrow g k ok;
      log = log-narrow g l a.0 k;
    }
