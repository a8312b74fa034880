-- What the heads that an accepted run leaves say: which superblocks name the root inode, what they count as free, which is finished.
-- Assumes nothing.
use mathlib.Core.Path.{◌≡◌, refl, sym, ◌∙◌}
use mathlib.Core.Bool.{Bool, true, false, ◌||◌, cond}
use mathlib.Core.List.{List}
use mathlib.Core.Logic.{◌⊎◌, inl, inr}
use Prim.Native.Nat.{ℕ, ◌+◌, ◌-◌, ◌/◌, ◌^◌, ◌<◌}
use native.Mathlib.Omega.{arith}
use borrow.Author.Tests.{eqb-true}
use lib.Dec.{eqb, lit<}
use lib.ListN.{length, get_or}
use Rattle.arith.specs.Choice.{when, bit}
use Rattle.endian.specs.Bytes.{be_at}
use Rattle.structs.specs.Written.{null64}
use Rattle.geometry.specs.declared.Geometry.{Geometry}
use Rattle.geometry_layout.specs.Places.{chunk_of, initial_free}
use Rattle.geometry_layout.specs.Bounds.{Bounds}
use Rattle.geometry_layout.proofs.Bounding.{answer-bounds}
use Rattle.geometry_layout.proofs.Inside.{few-blocks}
use Rattle.geometry_places.specs.Answers.{root_ino, initial_fdblocks}
use Rattle.plan_totals.specs.Totals.{free_count}
use Rattle.sb.specs.declared.SbState.{SbState}
use Rattle.plan.specs.declared.AgPlan.{AgPlan}
use Rattle.plan.specs.Plan.{planned}
use Rattle.plan_same.proofs.Planners.{planned-group}
use Rattle.head_bytes.specs.Head.{head_bytes}
use Rattle.sb_states.specs.States.{names_root, secondary_state, unfinished_state, finished_state, state_of}
use Rattle.sb_states.proofs.Known.{root-room}
use Rattle.sb_states.proofs.Naming.{only-these, secondary-free}
use Rattle.list_spec.specs.Listing.{head_written, head_finished, head_left}
use Rattle.list_spec.proofs.Whole.{group-planned}
use Rattle.list_accepted.specs.Accepted.{Source}
use Rattle.list_accepted.specs.Superblocks.{mark_at, root_field, root_named, free_named, mark_named, Says}
use Rattle.list_accepted.proofs.Runs.{source-plans, source-answer, source-label, source-uuid}
use Rattle.list_accepted.proofs.Sizes.{sector-least}
use Rattle.list_accepted.proofs.Reading.{blocks-of, id-of, root-of, groups_of, mark_of, free_of, group_of}

module _ (g : Geometry) (uuid : List ℕ) (z : Source g uuid) where
  sized : Bounds g
  sized = answer-bounds g (source-label g uuid z) (source-answer g uuid z)

  -- ---- the numbers fit their fields

  root-fits : root_ino g + 2 < 2 ^ 64
  root-fits = root-room g (source-label g uuid z) (source-plans g uuid z)

  -- the secondaries' count includes the root chunk
  initial-is : initial_fdblocks g ≡ free_count g + chunk_of g.inodesize g.blocksize
  unfolding state_of secondary_state finished_state
  initial-is = secondary-free g uuid (source-label g uuid z) (source-plans g uuid z) 1 (omega arith)

  free-fits : free_count g + chunk_of g.inodesize g.blocksize < 2 ^ 64
  unfolding initial_fdblocks initial_free
  free-fits = let e = initial-is in let f = few-blocks g sized in omega arith

  one-of : (t : Bool) (a b : ℕ) → a < 2 ^ 64 → b < 2 ^ 64 → when t a b < 2 ^ 64
  unfolding when
  one-of true a b h l = h
  one-of false a b h l = l

  -- ---- the head of a group in any state

  module _ (k : ℕ) (h : k < g.agcount) (s : SbState) (u : length s.uuid ≡ 16) where
    abbrev plan : AgPlan
    plan = (planned g k).plan

    abbrev in-state : List ℕ
    in-state = head_bytes g plan uuid s

    group_at : be_at 4 (g.sectsize + 8) in-state ≡ k
    group_at =
        let l = source-label g uuid z in
        let e : plan.agno ≡ k = planned-group g k (group-planned g l (source-plans g uuid z) k h) in
        let m = sized.groups.count_most in
        group_of g l (sector-least g sized) plan uuid s u (source-uuid g uuid z) (omega arith) ∙ e

    -- a state of this UUID, read back
    says-state : s.uuid ≡ uuid → s.rootino ≡ root_named g k → bit s.inprogress ≡ mark_named k → s.fdblocks ≡ free_named g k → s.rootino < 2 ^ 64 → s.fdblocks < 2 ^ 64 → bit s.inprogress < 256
        → Says g uuid k in-state
    says-state i r m f rf ff mf =
        let l = source-label g uuid z in
        let b = sector-least g sized in
        let d = few-blocks g sized in
        let c = sized.groups.count_most in
        record {
          blocks = blocks-of g l b plan uuid s u (omega arith);
          id = id-of g l b plan uuid s u ∙ i;
          root = root-of g l b plan uuid s u rf ∙ r;
          groups = groups_of g l b plan uuid s u (omega arith);
          mark = mark_of g l b plan uuid s u mf ∙ m;
          free = free_of g l b plan uuid s u ff ∙ f;
          group = group_at;
        }

  -- THE FINISHED HEAD OF GROUP 0
  pub finished-says : 0 < g.agcount → Says g uuid 0 (head_finished g uuid)
  unfolding head_finished finished_state root_named free_named mark_named when bit
  finished-says h =
      let r = root-fits in
      let f = free-fits in
      says-state 0 h (finished_state g uuid) (source-uuid g uuid z) refl refl refl refl (omega arith) (omega arith) (lit< tt)

  secondary-is : (k : ℕ) → eqb k 0 ≡ false → state_of g uuid k ≡ secondary_state g uuid k
  unfolding state_of
  secondary-is k e = rw e

  secondary-named : (k : ℕ) → eqb k 0 ≡ false → ((secondary_state g uuid k).rootino ≡ root_named g k) × (bit (secondary_state g uuid k).inprogress ≡ mark_named k) × ((secondary_state g uuid k).fdblocks ≡ free_named g k)
  unfolding secondary_state root_named free_named mark_named when bit
  secondary-named k e = rw e (refl, refl, initial-is)

  -- THOSE OF THE OTHER GROUPS
  secondary-says : (k : ℕ) → k < g.agcount → eqb k 0 ≡ false → Says g uuid k (head_bytes g (planned g k).plan uuid (secondary_state g uuid k))
  unfolding secondary_state bit
  secondary-says k h e =
      let n = secondary-named k e in
      let r = root-fits in
      let f = free-fits in
      let i = initial-is in
      says-state k h (secondary_state g uuid k) (source-uuid g uuid z) refl n.0 n.1 n.2
      (one-of (names_root g.agcount k) (root_ino g) null64 (omega arith) (lit< tt)) (omega arith) (lit< tt)

  left_at : (k : ℕ) → k < g.agcount → (t : Bool) → eqb k 0 ≡ t → Says g uuid k (cond t (head_finished g uuid) (head_written g uuid k))
  unfolding head_written
  left_at k h true e = let d = eqb-true k 0 e in rw d (finished-says (omega arith))
  left_at k h false e = rw (secondary-is k e) (secondary-says k h e)

  -- WHAT THE HEAD SAYS THAT IS LEFT IN EACH GROUP
  pub says : (k : ℕ) → k < g.agcount → Says g uuid k (head_left g uuid k)
  unfolding head_left
  says k h = left_at k h (eqb k 0) refl

  -- until the run is finished, group 0's superblock is marked as unfinished
  pub written-mark : get_or (head_written g uuid 0) mark_at 0 ≡ 1
  unfolding head_written state_of unfinished_state bit
  written-mark = mark_of g (source-label g uuid z) (sector-least g sized) (planned g 0).plan uuid (unfinished_state g uuid) (source-uuid g uuid z) (lit< tt)

  -- ---- no other group's superblock names the root inode

  named-at : (k : ℕ) (t n : Bool) → eqb k 0 ≡ t → names_root g.agcount k ≡ n → when (t || n) (root_ino g) null64 ≡ root_ino g
      → (k ≡ 0) ⊎ ((k ≡ g.agcount - 1) ⊎ ((2 < g.agcount) × (k ≡ (g.agcount - 1) / 2)))
  unfolding when
  named-at k true n e h r = inl (eqb-true k 0 e)
  named-at k false true e h r = inr (only-these g.agcount k h)
  named-at k false false e h r = absurd (let f = root-fits in omega arith)

  pub only-named : (k : ℕ) → k < g.agcount → root_field (head_left g uuid k) ≡ root_ino g
      → (k ≡ 0) ⊎ ((k ≡ g.agcount - 1) ⊎ ((2 < g.agcount) × (k ≡ (g.agcount - 1) / 2)))
  unfolding root_named
  only-named k h r = named-at k (eqb k 0) (names_root g.agcount k) refl refl (sym (says k h).root ∙ r)
