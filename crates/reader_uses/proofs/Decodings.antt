-- What the heads that a run leaves say is what its plans say.
-- Assumes nothing.
use mathlib.Core.Path.{◌≡◌, refl, ap, sym, ◌∙◌}
use mathlib.Core.Bool.{Bool, true, false, cond}
use mathlib.Core.List.{List, [], ◌∷◌}
use Prim.Native.Nat.{ℕ, ◌+◌, ◌^◌, ◌<◌}
use native.Mathlib.Omega.{arith}
use borrow.Author.Tests.{eqb-true}
use lib.Dec.{eqb}
use lib.ListN.{length}
use Rattle.seqs.specs.Lists.{fold, total}
use Rattle.geometry.specs.declared.Geometry.{Geometry}
use Rattle.geometry_answers.specs.Named.{is_answer}
use Rattle.geometry_layout.proofs.Bounding.{answer-bounds}
use Rattle.geometry_layout.proofs.Inside.{few-blocks}
use Rattle.btree.specs.declared.records.AllocRec.{AllocRec}
use Rattle.plan_site.specs.Sites.{site_of}
use Rattle.plan_free.specs.declared.FreeList.{FreeList}
use Rattle.plan_free.specs.Free.{free_of, alloc_count}
use Rattle.plan.specs.declared.AgPlan.{AgPlan}
use Rattle.plan.specs.Plan.{planned}
use Rattle.plan_closed.specs.Closed.{list_short}
use Rattle.plan_totals.specs.Totals.{add_count, max_count, freeblks_of, longest_of, free_count}
use Rattle.plan_totals.proofs.Whole.{all-planned, disk-adds}
use Rattle.plan_same.specs.Same.{is_plan}
use Rattle.plan_same.proofs.Planners.{planned-is-plan}
use Rattle.sb.specs.declared.SbState.{SbState}
use Rattle.sb_states.specs.States.{state_of, finished_state}
use Rattle.head_bytes.specs.Head.{head_bytes}
use Rattle.plan_uses.specs.Uses.{free_list_entries}
use Rattle.list_spec.specs.Listing.{head_written, head_finished, head_left}
use Rattle.list_spec.proofs.Whole.{group-planned}
use Rattle.reader_decoded.specs.Decoded.{agf_in, list_in, free_records_in, chunks_in, chunk_list, log_run_in, count_in}
use Rattle.reader_decoded.proofs.Numbers.{list_length}
use Rattle.reader_decoded.proofs.Sectors.{group-in, length-in, list-in}
use Rattle.reader_decoded.proofs.Trees.{free_in, chunks-in}
use Rattle.reader_decoded.proofs.Super.{log-in, count-back}
use Rattle.reader_uses.specs.ByUse.{LeftHeads}

-- the records' lengths, added one after the other
fold-total : (n : ℕ) (rs : List AllocRec) → fold add_count n rs ≡ n + total alloc_count rs
unfolding fold total
fold-total n [] = omega arith
fold-total n (r ∷ rs) = let e = fold-total (n + r.count) rs in omega arith

records-total : (l : FreeList) → total alloc_count (free_of l) ≡ freeblks_of l
unfolding freeblks_of
records-total l = let e = fold-total 0 (free_of l) in omega arith

module _ (g : Geometry) (u : List ℕ) (heads : ℕ → List ℕ) (d : LeftHeads g u heads) where
  pub answer : is_answer g ≡ true
  answer = (all-planned g d.label d.plans).0

  pub full : list_short (site_of g g.logagno) ≡ false
  full = (all-planned g d.label d.plans).1

  pub first_group : 0 < g.agcount
  first_group = let c = (answer-bounds g d.label answer).groups.count-least in omega arith

  -- ---- one group

  module _ (k : ℕ) (i : k < g.agcount) where
    abbrev its : AgPlan
    its = (planned g k).plan

    pub numbered : (planned g k).number ≡ 0
    numbered = group-planned g d.label d.plans k i

    pub is-plan : is_plan g its ≡ true
    is-plan = planned-is-plan g k numbered

    -- its head is the plan's, with some state of the superblock
    state : SbState
    state = cond (eqb k 0) (finished_state g u) (state_of g u k)

    left_at : (t : Bool) → eqb k 0 ≡ t → cond t (head_finished g u) (head_written g u k) ≡ head_bytes g its u (cond t (finished_state g u) (state_of g u k))
    unfolding head_finished head_written
    left_at true e = ap (λ (n : ℕ). head_bytes g (planned g n).plan u (finished_state g u)) (sym (eqb-true k 0 e))
    left_at false e = refl

    head-is : heads k ≡ head_bytes g its u state
    unfolding head_left state
    head-is = d.bytes k i ∙ left_at (eqb k 0) refl

    -- THE FREE LIST, THE FREE RECORDS AND THE CHUNK OF ITS BYTES ARE THE PLAN'S
    pub list-is : list_in g (heads k) ≡ free_list_entries its.agfl
    list-is = ap (λ (xs : List ℕ). list_in g xs) head-is ∙ list-in g its u state d.label is-plan d.uuid

    pub free-is : free_records_in g (heads k) ≡ free_of its.free
    free-is = ap (λ (xs : List ℕ). free_records_in g xs) head-is ∙ free_in g its u state d.label is-plan d.uuid

    pub chunks-are : chunks_in g (heads k) ≡ chunk_list its.chunk
    chunks-are = ap (λ (xs : List ℕ). chunks_in g xs) head-is ∙ chunks-in g its u state d.label is-plan d.uuid

    -- the group's number and length in its AGF are the plan's
    pub group-is : (agf_in g (heads k)).seqno ≡ its.agno
    group-is = ap (λ (xs : List ℕ). (agf_in g xs).seqno) head-is ∙ group-in g its u state d.label is-plan d.uuid

    pub length-is : (agf_in g (heads k)).length ≡ its.length
    length-is = ap (λ (xs : List ℕ). (agf_in g xs).length) head-is ∙ length-in g its u state d.label is-plan d.uuid

    -- entries and record lengths are the plan's counts
    pub entries-are : length (list_in g (heads k)) ≡ its.agfl.len
    entries-are = ap (λ (bs : List ℕ). length bs) list-is ∙ list_length g its d.label is-plan

    pub lengths-are : total alloc_count (free_records_in g (heads k)) ≡ freeblks_of its.free
    lengths-are = ap (λ (rs : List AllocRec). total alloc_count rs) free-is ∙ records-total its.free

    pub longest-is : fold max_count 0 (free_records_in g (heads k)) ≡ longest_of its.free
    unfolding longest_of
    longest-is = ap (λ (rs : List AllocRec). fold max_count 0 rs) free-is

  -- ---- group 0's superblock

  first-is : heads 0 ≡ head_bytes g (planned g 0).plan u (finished_state g u)
  unfolding head_left head_finished
  first-is = d.bytes 0 first_group

  its-uuid : length (finished_state g u).uuid ≡ 16
  unfolding finished_state
  its-uuid = d.uuid

  -- THE LOG OF ITS BYTES IS THE GEOMETRY'S
  pub log_is : log_run_in g (heads 0) ≡ record { group = g.logagno; at = g.log_agbno; blocks = g.logblocks }
  log_is = ap (λ (xs : List ℕ). log_run_in g xs) first-is ∙ log-in g (planned g 0).plan u (finished_state g u) d.label answer its-uuid

  count_fits : free_count g < 2 ^ 64
  count_fits = let a = disk-adds g d.label answer full in let b = few-blocks g (answer-bounds g d.label answer) in omega arith

  -- THE FREE COUNT OF ITS BYTES IS THE PLANS'
  pub count-is : count_in (heads 0) ≡ free_count g
  unfolding finished_state
  count-is = ap (λ (xs : List ℕ). count_in xs) first-is ∙ count-back g (planned g 0).plan u (finished_state g u) d.label answer its-uuid count_fits
