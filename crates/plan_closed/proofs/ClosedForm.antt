-- The planner's plan is the closed one, in group 0, in the log group and in every other.
-- Assumes nothing.
use Rattle.std.specs.Prelude.{Option, None}
use mathlib.Core.Path.{◌≡◌, refl, ap, ◌∙◌}
use mathlib.Core.Bool.{Bool, true, false, cond, ◌&&◌}
use mathlib.Core.Logic.{⊎_elim}
use mathlib.Core.List.{List, [], ◌∷◌, ◌++◌, append-nil}
use Prim.Native.Nat.{ℕ, ◌+◌, ◌-◌, ◌≤◌, ◌<◌, ◌^◌}
use native.Mathlib.Omega.{arith}
use borrow.Author.Tests.{ltb-true, ltb-false, eqb-true, lt-ltb, le-ltb, eq-eqb}
use lib.Dec.{ltb}
use Rattle.refusals.specs.Numbers.{free_list_short}
use Rattle.seqs.specs.Lists.{up_from}
use Rattle.seqs.proofs.Laws.{lt-or-le}
use Rattle.btree.specs.declared.records.AllocRec.{AllocRec}
use Rattle.btree.specs.declared.records.RmapRec.{RmapRec}
use Rattle.plan_site.specs.declared.Site.{Site}
use Rattle.plan_site.specs.Sites.{SoundSite}
use Rattle.plan_free.specs.Free.{pack_free, taken}
use Rattle.plan_rmap.specs.Rmap.{pack_rmap}
use Rattle.plan.specs.declared.Work.{Work}
use Rattle.plan.specs.Plan.{own_inodes, gap, map_rec, mapped, free_at_first, rmap_at_first, at_first, noted, list_filled, chunked, refused_plan, plan_answer, plan_of}
use Rattle.plan_closed.specs.Closed.{has_root_chunk, list_at, closed_free, closed_list, closed_rmap, list_short, closed_ag_plan, closed_plan}
use Rattle.plan_closed.proofs.Takings.{one-taken}
use Rattle.plan_closed.proofs.Filling.{work, filled, emptied, starved}
use Rattle.plan_closed.proofs.Mappings.{listed_map, with_chunk, list-mapped, chunk-mapped}

module _ (s : Site) (ok : SoundSite s) where
  -- ---- what is free at first: all from the free list's first block on

  free-at : (t : Bool) → cond t (s.log_at + s.log_blocks) s.head < s.length
      → cond t (gap s.head s.log_at ++ gap (s.log_at + s.log_blocks) s.length) (record { start = s.head; count = s.length - s.head } ∷ [])
      ≡ record { start = cond t (s.log_at + s.log_blocks) s.head; count = s.length - cond t (s.log_at + s.log_blocks) s.head } ∷ []
  free-at true h = let l = ok.log-after in rw (le-ltb s.head s.log_at (omega arith), lt-ltb (s.log_at + s.log_blocks) s.length h)
  free-at false h = refl

  free-first : list_at s < s.length → free_at_first s ≡ record { start = list_at s; count = s.length - list_at s } ∷ []
  unfolding list_at free_at_first
  free-first h = free-at s.has_log h

  none_first : s.has_log ≡ true → s.length ≤ list_at s → free_at_first s ≡ []
  unfolding list_at free_at_first
  none_first e h =
      let l = ok.log-after in
      let k : s.length ≤ s.log_at + s.log_blocks = rw e at h in
      rw (e, le-ltb s.head s.log_at (omega arith), le-ltb (s.log_at + s.log_blocks) s.length k)

  -- ---- the free list

  list-from : (t : Bool) → cond t (s.log_at + s.log_blocks) s.head < 2 ^ 31
  list-from true = let l = ok.log-after in let m = ok.log-most in let h = ok.head-most in omega arith
  list-from false = let h = ok.head-most in omega arith

  list-wide : list_at s < 2 ^ 31
  unfolding list_at
  list-wide = list-from s.has_log

  listed-full : s.need ≤ s.length - list_at s → list_filled s ≡ work 0 s.rmapbt (gap (list_at s + s.need) s.length) (closed_list s) (listed_map s s.need)
  unfolding list_filled at_first closed_list
  listed-full h =
      let n = ok.need-least in
      let m = ok.need-most in
      let w = list-wide in
      let l = ok.length_most in
      let e : list_at s + (s.length - list_at s) ≡ s.length = omega arith in
      let f = filled s.need (list_at s) (s.length - list_at s) s.rmapbt (rmap_at_first s) (listed_map s s.need) (omega arith) (omega arith) (omega arith) h (list-mapped s ok s.need (omega arith) (omega arith)) in
      rw (free-first (omega arith)) (f ∙ ap (λ (b : ℕ). work 0 s.rmapbt (gap (list_at s + s.need) b) (up_from (list_at s) s.need) (listed_map s s.need)) e)

  listed-short : s.has_log ≡ true → s.length - list_at s < s.need → (list_filled s).number ≡ free_list_short
  unfolding list_filled at_first
  listed-short e h =
      let n = ok.need-least in
      let m = ok.need-most in
      let w = list-wide in
      let l = ok.length_most in
      ⊎_elim
      (λ i. rw (free-first i) (emptied s.need (list_at s) (s.length - list_at s) s.rmapbt (rmap_at_first s) (listed_map s (s.length - list_at s)) (omega arith) (omega arith) (omega arith) h (list-mapped s ok (s.length - list_at s) (omega arith) (omega arith))))
      (λ i. rw (none_first e i) (starved s.need s.rmapbt (rmap_at_first s) (omega arith)))
      (lt-or-le (list_at s) s.length)

  -- outside the log group there are blocks enough
  elsewhere : s.has_log ≡ false → s.need ≤ s.length - list_at s
  unfolding list_at
  elsewhere e =
      let h = ok.head-most in
      let n = ok.need-most in
      let l = ok.length-least in
      rw e (omega arith)

  -- ---- the answer

  first-log : has_root_chunk s ≡ true → s.has_log ≡ false
  first-log z = ok.log-not-first (eqb-true s.agno 0 z)

  first-list : has_root_chunk s ≡ true → list_at s ≡ s.head
  unfolding list_at
  first-list z = rw (first-log z)

  never : {X : Type 0} (t : Bool) → t ≡ true → t ≡ false → X
  never t e f = let z : ◌≡◌ {A = ℕ} 0 1 = cc in absurd (omega arith)

  refused : (c : Option ℕ) (w : Work) → w.number ≡ free_list_short → plan_answer s c w ≡ refused_plan free_list_short
  unfolding plan_answer
  refused c w e = rw e

  log-refused : (t : Bool) → has_root_chunk s ≡ t → s.has_log ≡ true → s.length - list_at s < s.need → plan_of s ≡ refused_plan free_list_short
  unfolding plan_of
  log-refused true z e h = never s.has_log e (first-log z)
  log-refused false z e h = rw z (refused None (list_filled s) (listed-short e h))

  -- the root chunk, where a run can be taken and a record put
  chunked-by : (free free' : List AllocRec) (list : List ℕ) (map map' : List RmapRec)
      → taken (pack_free free) s.chunk_at s.chunk_blocks ≡ record { number = 0; list = pack_free free' }
      → mapped s.rmapbt (pack_rmap map) (map_rec s.chunk_at s.chunk_blocks own_inodes) ≡ record { number = 0; list = pack_rmap map' }
      → chunked s (work 0 s.rmapbt free list map) ≡ work 0 s.rmapbt free' list map'
  unfolding chunked noted
  chunked-by free free' list map map' t m = rw (t, m)

  chunk-taken : taken (pack_free (gap (s.head + s.need) s.length)) s.chunk_at s.chunk_blocks
      ≡ record { number = 0; list = pack_free (gap (s.head + s.need) s.chunk_at ++ gap (s.chunk_at + s.chunk_blocks) s.length) }
  chunk-taken =
      let a = ok.chunk-after in
      let b = ok.chunk-least in
      let c = ok.chunk-ends in
      let l = ok.length-least in
      let m = ok.length_most in
      let e : s.head + s.need + (s.length - (s.head + s.need)) ≡ s.length = omega arith in
      rw (lt-ltb (s.head + s.need) s.length (omega arith))
      (one-taken (s.head + s.need) (s.length - (s.head + s.need)) s.chunk_at s.chunk_blocks (omega arith) a (omega arith) (omega arith)
      ∙ ap (λ (b : ℕ). record { number = 0; list = pack_free (gap (s.head + s.need) s.chunk_at ++ gap (s.chunk_at + s.chunk_blocks) b) }) e)

  first-free : has_root_chunk s ≡ true → closed_free s ≡ gap (s.head + s.need) s.chunk_at ++ gap (s.chunk_at + s.chunk_blocks) s.length
  unfolding closed_free
  first-free z = rw z

  other-free : has_root_chunk s ≡ false → closed_free s ≡ gap (list_at s + s.need) s.length
  unfolding closed_free
  other-free z = rw z

  first-map : has_root_chunk s ≡ true → closed_rmap s ≡ with_chunk s s.need
  unfolding closed_rmap list_at
  first-map z = rw z

  other-map : has_root_chunk s ≡ false → closed_rmap s ≡ listed_map s s.need
  unfolding closed_rmap list_at
  other-map z = rw (z, append-nil)

  chunked-first : has_root_chunk s ≡ true
      → chunked s (work 0 s.rmapbt (gap (list_at s + s.need) s.length) (closed_list s) (listed_map s s.need)) ≡ work 0 s.rmapbt (closed_free s) (closed_list s) (closed_rmap s)
  chunked-first z =
      let n = ok.need-least in
      rw (first-list z, first-free z, first-map z)
      (chunked-by (gap (s.head + s.need) s.length) (gap (s.head + s.need) s.chunk_at ++ gap (s.chunk_at + s.chunk_blocks) s.length) (closed_list s) (listed_map s s.need) (with_chunk s s.need) chunk-taken (chunk-mapped s ok s.need (omega arith) (first-log z) ok.chunk-after))

  -- a plan of its parts
  accepted : (t : Bool) → has_root_chunk s ≡ t → s.need ≤ s.length - list_at s → plan_of s ≡ record { number = 0; plan = closed_ag_plan s }
  unfolding plan_of plan_answer
  accepted true z h = rw (z, listed-full h, chunked-first z)
  accepted false z h = rw (z, listed-full h, other-free z, other-map z)

  plan-at : (t u : Bool) → s.has_log ≡ t → ltb (s.length - list_at s) s.need ≡ u → plan_of s ≡ cond (t && u) (refused_plan free_list_short) (record { number = 0; plan = closed_ag_plan s })
  plan-at true true e f = log-refused (has_root_chunk s) refl e (ltb-true _ _ f)
  plan-at true false e f = accepted (has_root_chunk s) refl (ltb-false _ _ f)
  plan-at false u e f = accepted (has_root_chunk s) refl (elsewhere e)

-- A TAKEN ROOT CHUNK CAN'T OCCUR: after the free list is filled its blocks are free
pub chunk-is-free : (s : Site) → SoundSite s → s.agno ≡ 0 → (taken (list_filled s).free s.chunk_at s.chunk_blocks).number ≡ 0
chunk-is-free s ok z =
    let e = eq-eqb s.agno 0 z in
    rw (listed-full s ok (elsewhere s ok (ok.log-not-first z)), first-list s ok e, chunk-taken s ok)

-- THE PLANNER'S PLAN IN CLOSED FORM
pub closed-form : (s : Site) → SoundSite s → plan_of s ≡ closed_plan s
unfolding closed_plan list_short
closed-form s ok = plan-at s ok s.has_log (ltb (s.length - list_at s) s.need) refl refl
