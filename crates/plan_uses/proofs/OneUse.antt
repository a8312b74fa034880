-- Every planned group of an answer: each block has one use, and the reverse mappings agree with the uses.
-- Assumes nothing.
use mathlib.Core.Path.{◌≡◌, refl, sym, ap, ◌∙◌}
use mathlib.Core.Bool.{Bool, true, false, cond}
use mathlib.Core.List.{List}
use Prim.Native.Nat.{ℕ, ◌+◌, ◌-◌, ◌≤◌, ◌<◌}
use native.Mathlib.Omega.{arith}
use lib.ListN.{length, replicate}
use lib.Seq.{take-append_seam}
use Rattle.refusals.specs.Numbers.{free_list_short}
use Rattle.seqs.specs.Runs.{valid, run_length, has}
use Rattle.seqs.proofs.Weights.{additive-has, additive-blocks, inside-in, inside-above}
use Rattle.geometry.specs.declared.Geometry.{Geometry}
use Rattle.geometry_answers.specs.Named.{is_answer}
use Rattle.geometry_layout.specs.Places.{group_blocks}
use Rattle.btree.specs.declared.records.RmapRec.{RmapRec}
use Rattle.plan_site.specs.Sites.{site_of, SoundSite}
use Rattle.plan_site.proofs.Sites.{site-sound}
use Rattle.plan_rmap.specs.Rmap.{zero_rmap_rec, rmap_of, pack_rmap, rmap_start, rmap_count}
use Rattle.plan.specs.declared.AgPlan.{AgPlan}
use Rattle.plan.specs.Plan.{planned}
use Rattle.plan_closed.specs.Closed.{is_joined, list_at, closed_rmap, list_short, closed_ag_plan}
use Rattle.plan_closed.proofs.Planning.{planned-number, planned-plan}
use Rattle.plan_uses.specs.Uses.{free_use, all_parts, uses_of, used_of, used_blocks, mapped_of, owned_of, Owners, none_joins, starts_at}
use Rattle.plan_uses.proofs.Parts.{parts-weigh}
use Rattle.plan_uses.proofs.Owned.{used-weighs, owners-weigh}
use Rattle.plan_uses.proofs.Sorted.{none-joins, map-valid, list-starts}

rmap-packed : (rs : List RmapRec) → rmap_of (pack_rmap rs) ≡ rs
rmap-packed rs = take-append_seam rs (replicate (64 - length rs) zero_rmap_rec)

not_short : (t : Bool) → cond {A = ℕ} t free_list_short 0 ≡ 0 → t ≡ false
not_short true e = absurd (omega arith)
not_short false e = refl

-- a planned group of an answer
module _ (g : Geometry) (l : length g.label ≡ 12) (h : is_answer g ≡ true) (k : ℕ) (i : k < g.agcount) (q : (planned g k).number ≡ 0) where
  ok : SoundSite (site_of g k)
  ok = site-sound g k l h

  full : list_short (site_of g k) ≡ false
  full = not_short (list_short (site_of g k)) (sym (planned-number g l h k i) ∙ q)

  plan-is : (planned g k).plan ≡ closed_ag_plan (site_of g k)
  plan-is = planned-plan g l h k i full

  all-weigh : (b : ℕ) → uses_of g k b ≡ has b 0 (group_blocks g.dblocks g.agsize g.agcount k)
  unfolding uses_of site_of
  all-weigh b = ap (all_parts (has b) (site_of g k)) plan-is ∙ parts-weigh (has b) (additive-has b) (site_of g k) ok full

  -- EVERY BLOCK OF A PLANNED GROUP HAS EXACTLY ONE USE
  pub one-use : (b : ℕ) → b < group_blocks g.dblocks g.agsize g.agcount k → uses_of g k b ≡ 1
  one-use b j = all-weigh b ∙ inside-in 0 (group_blocks g.dblocks g.agsize g.agcount k) b (omega arith) j

  -- and nothing past the group has one
  pub no-use : (b : ℕ) → group_blocks g.dblocks g.agsize g.agcount k ≤ b → uses_of g k b ≡ 0
  no-use b j = all-weigh b ∙ inside-above 0 (group_blocks g.dblocks g.agsize g.agcount k) b j

  -- THE BLOCKS OF ITS USES ARE AS MANY AS THE GROUP HAS
  pub totals : used_blocks g k ≡ group_blocks g.dblocks g.agsize g.agcount k
  unfolding used_blocks run_length site_of
  totals = ap (all_parts run_length (site_of g k)) plan-is ∙ parts-weigh run_length additive-blocks (site_of g k) ok full ∙ omega arith

  -- ---- with rmapbt

  module _ (on : g.features.rmapbt ≡ true) where
    its_map : rmap_of (planned g k).plan.rmap ≡ closed_rmap (site_of g k)
    its_map = ap (λ (p : AgPlan). rmap_of p.rmap) plan-is ∙ rmap-packed (closed_rmap (site_of g k))

    site-on : (site_of g k).rmapbt ≡ true
    unfolding site_of
    site-on = on

    -- THE REVERSE MAPPINGS HOLD EXACTLY WHAT IS USED
    pub rmap-agrees : (b : ℕ) → mapped_of g k b ≡ used_of g k b
    unfolding mapped_of used_of
    rmap-agrees b = rw (its_map, plan-is) (used-weighs (has b) (additive-has b) (site_of g k) ok site-on)

    -- each block of the group is mapped once or free, not both
    pub mapped-or-free : (b : ℕ) → b < group_blocks g.dblocks g.agsize g.agcount k → mapped_of g k b + free_use (has b) (planned g k).plan ≡ 1
    unfolding uses_of used_of
    mapped-or-free b j = rw (rmap-agrees b) (one-use b j)

    -- and no record holds a block past the group
    pub none-mapped : (b : ℕ) → group_blocks g.dblocks g.agsize g.agcount k ≤ b → mapped_of g k b ≡ 0
    unfolding uses_of used_of
    none-mapped b j = let u = no-use b j in rmap-agrees b ∙ omega arith

    -- EACH OWNER HAS WHAT THE SCOPE GIVES IT
    pub owners-agree : (b : ℕ) → Owners (has b) (site_of g k) (planned g k).plan (λ o. owned_of o g k b)
    unfolding owned_of
    owners-agree b = rw (its_map, plan-is) (owners-weigh (has b) (additive-has b) (site_of g k) ok site-on)

    -- SORTED, APART, AND JOINED WHERE RECORDS CAN BE
    pub rmap-valid : valid rmap_start rmap_count 0 (rmap_of (planned g k).plan.rmap) ≡ true
    rmap-valid = rw its_map (map-valid (site_of g k) ok site-on)

    pub rmap-joined : none_joins (rmap_of (planned g k).plan.rmap) ≡ true
    rmap-joined = rw its_map (none-joins (site_of g k) site-on)

    -- THE FREE LIST IS JOINED WITH THE RMAP ROOT EXACTLY WHERE REFLINK IS OFF AND THE LOG IS ELSEWHERE
    pub list-joined : starts_at (list_at (site_of g k)) (rmap_of (planned g k).plan.rmap) ≡ cond (is_joined (site_of g k)) 0 1
    list-joined = rw its_map (list-starts (site_of g k) ok site-on)
