-- The numbers of a plan of the planner fit the fields of its head.
-- Assumes nothing.
use mathlib.Core.Path.{◌≡◌, ap, sym, subst}
use mathlib.Core.Bool.{Bool, true, false}
use mathlib.Core.List.{List, [], ◌∷◌, ◌++◌}
use Prim.Native.Nat.{ℕ, zero, suc, ◌+◌, ◌-◌, ◌^◌, ◌≤◌, ◌<◌}
use native.Mathlib.Nat.{mod-le}
use native.Mathlib.Omega.{arith}
use lib.Dec.{ltb, lit<}
use lib.ListN.{length, take, replicate}
use lib.Seq.{take-append_seam}
use Rattle.arith.specs.Choice.{when, bit}
use Rattle.arith.proofs.Laws.{bit_le}
use Rattle.endian.specs.Bytes.{Below}
use Rattle.seqs.specs.Lists.{up_from}
use Rattle.seqs.proofs.Laws.{choose-elim}
use Rattle.geometry.specs.declared.Geometry.{Geometry}
use Rattle.geometry_layout.specs.Places.{cnt_block, ibt_block, fibt_block, rmap_block, refc_block, agfl_size}
use Rattle.btree.specs.declared.records.AllocRec.{AllocRec}
use Rattle.btree.specs.Decode.{Each, AllocFits}
use Rattle.ag.specs.Decode.{AgfFits, AgiFits}
use Rattle.plan_site.specs.declared.Site.{Site}
use Rattle.plan_site.specs.Sites.{site_of, SoundSite}
use Rattle.plan_site.proofs.Sites.{site-sound}
use Rattle.plan_free.specs.declared.FreeList.{FreeList}
use Rattle.plan_free.specs.Free.{free_of}
use Rattle.plan_free.proofs.Uses.{free-packed}
use Rattle.plan.specs.declared.AgPlan.{AgPlan}
use Rattle.plan.specs.Plan.{gap}
use Rattle.plan_closed.specs.Closed.{has_root_chunk, list_at, closed_free, closed_list, closed_ag_plan}
use Rattle.plan_totals.specs.Totals.{freeblks_of, longest_of}
use Rattle.plan_same.specs.Same.{is_plan}
use Rattle.head_frame.specs.declared.Frame.{Frame}
use Rattle.plan_summary.proofs.Narrow.{plan-answer, plan-closed}
use Rattle.head_bytes.specs.Head.{agf_for, agi_for}

-- ---- the headers

when-below : (t : Bool) (n m : ℕ) → n < m → 0 < m → when t n 0 < m
unfolding when
when-below true n m a b = a
when-below false n m a b = b

module _ (w : Frame) (header : w.header ≤ 4) (group : w.agno < 2 ^ 32) (blocks : w.length < 2 ^ 32) where
  bit_below : (t : Bool) → bit t < 2 ^ 32
  bit_below t = let b = bit_le t in omega arith

  root_below : (t : Bool) (n : ℕ) → n ≤ 10 → when t n 0 < 2 ^ 32
  root_below t n h = when-below t n (2 ^ 32) (omega arith) (lit< tt)

  pub agf-fits : (free : FreeList) (list : ℕ) → list ≤ 6 → freeblks_of free < 2 ^ 32 → longest_of free < 2 ^ 32 → AgfFits (agf_for w free list)
  unfolding agf_for cnt_block rmap_block refc_block
  agf-fits free list n f m =
      let i = bit_le w.features.finobt in
      let j = bit_le w.features.rmapbt in
      let last = mod-le list (agfl_size w.sector) in
      let one : 1 < 2 ^ 32 = lit< tt in
      let rmap = bit_below w.features.rmapbt in
      let refc = bit_below w.features.reflink in
      (group, (blocks, (omega arith, (one, (omega arith, (one, (root_below w.features.rmapbt _ (omega arith), (rmap, (rmap, (root_below w.features.reflink _ (omega arith), (refc, (refc, (one, (omega arith, (omega arith, (f, (m, (lit< tt, tt))))))))))))))))))

  pub agi-fits : w.newino < 2 ^ 32 → AgiFits (agi_for w)
  unfolding agi_for ibt_block fibt_block
  agi-fits inode =
      let one : 1 < 2 ^ 32 = lit< tt in
      let some : (n : ℕ) → n ≤ 64 → when w.has_chunk n 0 < 2 ^ 32 = λ n h. when-below w.has_chunk n (2 ^ 32) (omega arith) (lit< tt) in
      let root = root_below w.features.finobt (w.header + 3) (omega arith) in
      let fin = bit_below w.features.finobt in
      let counted = bit_below w.features.inobtcount in
      let both = when-below w.features.inobtcount (bit w.features.finobt) (2 ^ 32) fin (lit< tt) in
      (group, (blocks, (some 64 (omega arith), (omega arith, (one, (some 61 (omega arith), (inode, (root, (fin, (counted, (both, tt)))))))))))

-- ---- free list and free records

below_up : (m a n : ℕ) → a + n ≤ m → Below m (up_from a n)
unfolding up_from
below_up m a zero h = tt
below_up m a (suc n) h = (omega arith, below_up m (a + 1) n (omega arith))

each_append : {A : Type 0} (ok : A → Type 0) (xs ys : List A) → Each ok xs → Each ok ys → Each ok (xs ++ ys)
each_append ok [] ys a b = b
each_append ok (x ∷ xs) ys a b = (a.0, each_append ok xs ys a.1 b)

module _ (s : Site) (ok : SoundSite s) where
  after_list : list_at s + s.need < 2 ^ 32
  unfolding list_at
  after_list =
      let h = ok.head-most in
      let n = ok.need-most in
      let a = ok.log-after in
      let b = ok.log-most in
      choose-elim (λ (x : ℕ). x + s.need < 2 ^ 32) s.has_log _ _ (λ t. omega arith) (λ t. omega arith)

  list-below : Below (2 ^ 32) (closed_list s)
  unfolding closed_list
  list-below = below_up (2 ^ 32) (list_at s) s.need (let a = after_list in omega arith)

  gap-fits : (a b : ℕ) → a < 2 ^ 32 → b < 2 ^ 32 → Each AllocFits (gap a b)
  gap-fits a b x y = choose-elim (λ (l : List AllocRec). Each AllocFits l) (ltb a b) _ _ (λ t. ((x, omega arith), tt)) (λ t. tt)

  free-fits : Each AllocFits (closed_free s)
  unfolding closed_free
  free-fits =
      let l = ok.length_most in
      let c = ok.chunk-ends in
      let h = ok.head-most in
      let n = ok.need-most in
      let e : s.length < 2 ^ 32 = omega arith in
      choose-elim (λ (l : List AllocRec). Each AllocFits l) (has_root_chunk s) _ _
      (λ t. each_append AllocFits (gap (s.head + s.need) s.chunk_at) _ (gap-fits (s.head + s.need) s.chunk_at (omega arith) (omega arith))
      (gap-fits (s.chunk_at + s.chunk_blocks) s.length (omega arith) e))
      (λ t. gap-fits (list_at s + s.need) s.length after_list e)

-- ---- of a plan of the planner

-- the blocks on its free list
abbrev pub entries_of : AgPlan → List ℕ
entries_of p = take p.agfl.len p.agfl.blocks

module _ (g : Geometry) (p : AgPlan) (l : length g.label ≡ 12) (h : is_plan g p ≡ true) where
  abbrev its : Site
  its = site_of g p.agno

  sound : SoundSite its
  sound = site-sound g p.agno l (plan-answer g p l h).0

  -- a fact of the plan from that of its closed form
  closed : (P : AgPlan → Type 0) → P (closed_ag_plan its) → P p
  closed P x = subst P (sym (plan-closed g p l h)) x

  list-is : entries_of (closed_ag_plan its) ≡ closed_list its
  list-is = take-append_seam (closed_list its) (replicate (64 - length (closed_list its)) 0)

  pub list_length : length (entries_of p) ≡ p.agfl.len
  list_length = closed (λ (q : AgPlan). length (entries_of q) ≡ q.agfl.len) (ap (λ (x : List ℕ). length x) list-is)

  pub list-fits : Below (2 ^ 32) (entries_of p)
  list-fits = closed (λ (q : AgPlan). Below (2 ^ 32) (entries_of q)) (subst (λ (x : List ℕ). Below (2 ^ 32) x) (sym list-is) (list-below its sound))

  pub free-length : length (free_of p.free) ≡ p.free.len
  free-length = closed (λ (q : AgPlan). length (free_of q.free) ≡ q.free.len) (ap (λ (x : List AllocRec). length x) (free-packed (closed_free its)))

  pub free-narrow : Each AllocFits (free_of p.free)
  free-narrow = closed (λ (q : AgPlan). Each AllocFits (free_of q.free)) (subst (λ (x : List AllocRec). Each AllocFits x) (sym (free-packed (closed_free its))) (free-fits its sound))
