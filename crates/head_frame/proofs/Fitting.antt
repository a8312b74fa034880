-- Every plan of the planner has a frame that is fine, and short lists.
-- Assumes nothing.
use Rattle.std.specs.Prelude.{Option, Some, None}
use mathlib.Core.Path.{◌≡◌, refl, sym, ◌∙◌}
use mathlib.Core.Bool.{Bool, true, false, ◌||◌, cond}
use mathlib.Core.Logic.{⊎_elim}
use mathlib.Core.List.{List, [], ◌∷◌, ◌++◌}
use Prim.Native.Nat.{ℕ, zero, suc, ◌+◌, ◌*◌, ◌^◌, ◌≤◌, ◌<◌}
use native.Mathlib.Nat.{pow-le-pow_right, mul-le-mul}
use native.Mathlib.Omega.{arith}
use lib.Dec.{eqb, lit<}
use lib.ListN.{length, length-append}
use borrow.Author.Tests.{eq-eqb}
use Rattle.refusals.specs.Numbers.{no_answer}
use Rattle.seqs.proofs.Laws.{choose-elim, lt-or-le}
use Rattle.geometry.specs.declared.Geometry.{Geometry}
use Rattle.geometry.specs.Log.{header_of}
use Rattle.geometry_layout.specs.Bounds.{Bounds}
use Rattle.geometry_layout.proofs.Bounding.{answer-bounds}
use Rattle.geometry_layout.proofs.Ceil.{counted}
use Rattle.geometry_layout.proofs.Inside.{blocks-least, inodes-most}
use Rattle.geometry_places.proofs.Room.{room_at}
use Rattle.plan_site.specs.declared.Site.{Site}
use Rattle.plan_site.specs.Sites.{site_of, SoundSite}
use Rattle.plan_site.proofs.Sites.{site-sound}
use Rattle.structs.specs.Sizes.{is_power, is_sector, is_block}
use Rattle.plan.specs.declared.AgPlan.{AgPlan}
use Rattle.btree.specs.declared.records.RmapRec.{RmapRec}
use Rattle.plan.specs.Plan.{own_ag, own_log, own_inodes, own_refc, map_rec, refc_map, log_map, planned}
use Rattle.plan_closed.specs.Closed.{has_root_chunk, is_joined, list_at, head_mappings, list_parts, chunk_mapping, closed_rmap}
use Rattle.plan_totals.proofs.Rows.{list-is}
use Rattle.plan_same.specs.Same.{is_plan}
use Rattle.plan_summary.proofs.Narrow.{free-few, free-least, longest-least, plan-answer, plan-closed}
use Rattle.head_frame.specs.declared.Frame.{Frame}
use Rattle.head_frame.specs.declared.Framed.{Framed}
use Rattle.head_frame.specs.Frames.{frame_of, no_frame, framed, framed_at, FrameBounds, FewRecords, chunk_ino}

-- ---- powers of two in a range

or-true : (a : Bool) → (a || true) ≡ true
or-true true = refl
or-true false = refl

pub is-power : (k c j : ℕ) → k ≤ j → j ≤ k + c → is_power k c (2 ^ j) ≡ true
is-power k zero j h l = let e : j ≡ k = omega arith in rw e (eq-eqb (2 ^ k) (2 ^ k) refl)
is-power k (suc c) j h l =
    ⊎_elim
    (λ lt. let r : is_power (suc k) c (2 ^ j) ≡ true = is-power (suc k) c j (omega arith) (omega arith) in rw r (or-true (eqb (2 ^ j) (2 ^ k))))
    (λ le. let e : j ≡ k = omega arith in rw e (rw (eq-eqb (2 ^ k) (2 ^ k) refl) refl))
    (lt-or-le k j)

-- records in a list of choices
maybe-few : {A : Type 0} (t : Bool) (x : A) → length (cond t (x ∷ []) []) ≤ 1
maybe-few true x = omega arith
maybe-few false x = omega arith

between-few : (s : Site) → length (list_parts s) ≤ 4
between-few s =
    choose-elim (λ (l : List RmapRec). length l ≤ 4) (is_joined s) _ _
    (λ t. omega arith)
    (λ t. let last = map_rec (list_at s) s.need own_ag ∷ [] in
    let a = maybe-few s.reflink (map_rec s.refc_at 1 own_refc) in
    let b = maybe-few s.has_log (map_rec s.log_at s.log_blocks own_log) in
    let n = length-append (refc_map s) (log_map s ++ last) in
    let m = length-append (log_map s) last in
    omega arith)

rmap-few : (s : Site) → length (closed_rmap s) ≤ 8
unfolding closed_rmap
rmap-few s =
    choose-elim (λ (l : List RmapRec). length l ≤ 8) s.rmapbt _ _
    (λ t. let a = between-few s in
    let b = maybe-few (has_root_chunk s) (map_rec s.chunk_at s.chunk_blocks own_inodes) in
    let n = length-append (head_mappings s) (list_parts s ++ chunk_mapping s) in
    let m = length-append (list_parts s) (chunk_mapping s) in
    omega arith)
    (λ t. omega arith)

-- the chunk's first inode, for at most 32 inodes a block
ino-least : (s : Site) (log : ℕ) → SoundSite s → 2 ^ log ≤ 32 → chunk_ino log (cond (has_root_chunk s) (Some s.chunk_at) None) < 2 ^ 32
unfolding chunk_ino
ino-least s log ok h =
    choose-elim (λ (x : Option ℕ). chunk_ino log x < 2 ^ 32) (has_root_chunk s) _ _
    (λ t. let c = ok.chunk-ends in let b : s.chunk_at ≤ 80 = omega arith in let m : s.chunk_at * 2 ^ log ≤ 80 * 32 = mul-le-mul b h in omega arith)
    (λ t. omega arith)

-- ---- a plan of the planner

-- what the casts of the frame need
pub record Narrow (g : Geometry) (p : AgPlan) : Type 0 where
  pub group : p.agno < 2 ^ 32
  pub blocks : p.length < 2 ^ 32
  pub header : header_of g.sectsize g.blocksize < 2 ^ 32
  pub shift : g.inopblog < 64
  pub inode : chunk_ino g.inopblog p.chunk < 2 ^ 32
  pub list : p.agfl.len < 2 ^ 32

module _ (g : Geometry) (p : AgPlan) (l : length g.label ≡ 12) (h : is_plan g p ≡ true) where
  abbrev its : Site
  its = site_of g p.agno

  bounds : Bounds g
  bounds = answer-bounds g l (plan-answer g p l h).0

  sound : SoundSite its
  sound = site-sound g p.agno l (plan-answer g p l h).0

  pub plan-narrow : Narrow g p
  unfolding site_of
  plan-narrow =
      let n = bounds.groups.count_most in
      let k = (plan-answer g p l h).1 in
      let b = sound.length_most in
      let t = bounds.places.header-most in
      let e = bounds.sizes.inodes-log in
      let m = bounds.sizes.block-most in
      record {
        group = omega arith;
        blocks = rw (plan-closed g p l h) (omega arith);
        header = omega arith;
        shift = omega arith;
        inode = rw (plan-closed g p l h) (ino-least its g.inopblog sound (inodes-most g bounds));
        list = rw (plan-closed g p l h) (omega (arith, list-is its, sound.need-most));
      }

  -- THE LISTS ARE SHORT
  pub plan-few : FewRecords p
  plan-few =
      let n = sound.need-most in
      record {
        free-most = rw (plan-closed g p l h) (free-few its);
        list-most = rw (plan-closed g p l h) (rw (list-is its) n);
        rmap-most = rw (plan-closed g p l h) (rmap-few its);
        blocks-most = rw (plan-closed g p l h) (omega (arith, free-least its sound));
        longest-most = rw (plan-closed g p l h) (omega (arith, longest-least its sound));
      }

  -- THE FRAME IS FINE
  pub plan-fine : FrameBounds (frame_of g p)
  unfolding frame_of is_sector is_block header_of
  plan-fine =
      let s = bounds.sizes in
      let low : 2 ^ 9 ≤ 2 ^ g.sectlog = pow-le-pow_right (lit< tt) s.sector-least in
      let mid : 2 ^ g.sectlog ≤ 2 ^ g.blocklog = pow-le-pow_right (lit< tt) s.sector-block in
      let high : 2 ^ g.blocklog ≤ 2 ^ 14 = pow-le-pow_right (lit< tt) s.block-most in
      let sp = s.sector-power in
      let bp = s.block-power in
      let c = counted (4 * g.sectsize) g.blocksize (omega arith) (omega arith) in
      let bl = s.block-least in
      let bm = s.block-most in
      let sl = s.sector-least in
      let sb = s.sector-block in
      record {
        header-least = c.some;
        header-most = bounds.places.header-most;
        sector-is = rw sp (is-power 9 6 g.sectlog sl (omega arith));
        sector-most = omega arith;
        block-is = rw bp (is-power 10 4 g.blocklog bl (omega arith));
        block-most = omega arith;
        sectors-fit = c.enough;
        addresses = λ b le. (room_at g bounds p.agno b (plan-answer g p l h).1 (let w = blocks-least g bounds p.agno in omega arith)).daddr;
      }

-- ---- what an answer of `frame_of` says

answered-at : (t : Bool) (w : Frame) → (cond {A = Framed} t (record { number = 0; frame = w }) (record { number = no_answer; frame = no_frame })).number ≡ cond t 0 no_answer
answered-at true w = refl
answered-at false w = refl

pub framed-number : (g : Geometry) (p : AgPlan) → (framed g p).number ≡ cond (is_plan g p) 0 no_answer
unfolding framed
framed-number g p = answered-at (is_plan g p) (frame_of g p)

pub framed-frame : (g : Geometry) (p : AgPlan) → is_plan g p ≡ true → (framed g p).frame ≡ frame_of g p
unfolding framed
framed-frame g p h = rw h

-- a number of 0 is a plan of the planner
told_at : (t : Bool) → cond {A = ℕ} t 0 no_answer ≡ 0 → t ≡ true
told_at true e = refl
told_at false e = absurd (omega arith)

pub framed-plan : (g : Geometry) (p : AgPlan) → (framed g p).number ≡ 0 → is_plan g p ≡ true
framed-plan g p e = told_at (is_plan g p) (sym (framed-number g p) ∙ e)

-- ---- and what one of `frame_at` says

pub framed-at-number : (g : Geometry) (k : ℕ) → (framed_at g k).number ≡ (planned g k).number
unfolding framed_at
framed-at-number g k = refl

pub framed-at-plan : (g : Geometry) (k : ℕ) → (framed_at g k).plan ≡ (planned g k).plan
unfolding framed_at
framed-at-plan g k = refl

pub framed-at-frame : (g : Geometry) (k : ℕ) → (planned g k).number ≡ 0 → (framed_at g k).frame ≡ frame_of g (planned g k).plan
unfolding framed_at
framed-at-frame g k e = rw e refl
