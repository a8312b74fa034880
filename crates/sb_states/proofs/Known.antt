-- Numbers of a geometry whose plans are accepted: they are answers, and the root inode has room behind it.
-- Assumes nothing.
use mathlib.Core.Path.{◌≡◌, refl}
use mathlib.Core.Bool.{Bool, true, false, cond}
use Prim.Native.Nat.{ℕ, ◌+◌, ◌^◌, ◌≤◌, ◌<◌}
use native.Mathlib.Omega.{arith}
use borrow.Author.Tests.{eqb-true, eq-eqb, le-leb, lt-leb}
use lib.Dec.{leb, eqb}
use Rattle.refusals.specs.Numbers.{no_place}
use Rattle.arith.specs.Choice.{when}
use lib.ListN.{length}
use Rattle.geometry.specs.declared.Geometry.{Geometry}
use Rattle.geometry_answers.specs.Named.{is_answer}
use Rattle.geometry_layout.specs.Places.{fsb_of, ino_of, root_chunk_of}
use Rattle.geometry_layout.specs.Bounds.{Bounds}
use Rattle.geometry_layout.proofs.Bounding.{answer-bounds}
use Rattle.geometry_layout.proofs.Inside.{blocks-least, fitting}
use Rattle.geometry_counts.specs.Known.{known, value_in}
use Rattle.geometry_places.specs.Answers.{root_chunk, root_ino, initial_fdblocks, unless64}
use Rattle.geometry_places.proofs.Room.{some-inode}
use Rattle.plan_totals.specs.Totals.{plans_number, free_count, free_count_answer}
use Rattle.plan_totals.proofs.Whole.{all-planned}
use Rattle.sb_states.specs.States.{state_number}

module _ (g : Geometry) (l : length g.label ≡ 12) (h : plans_number g ≡ 0) where
  -- accepted plans are those of an answer
  pub answer : is_answer g ≡ true
  answer = (all-planned g l h).0

  sized : Bounds g
  sized = answer-bounds g l answer

  pub some-group : 0 < g.agcount
  some-group = let c = sized.groups.count-least in omega arith

  pub root-value : value_in (known (is_answer g) (root_ino g)) ≡ root_ino g
  unfolding known
  root-value = rw answer

  pub initial-value : value_in (known (is_answer g) (initial_fdblocks g)) ≡ initial_fdblocks g
  unfolding known
  initial-value = rw answer

  pub free-value : value_in (free_count_answer g) ≡ free_count g
  unfolding free_count_answer unless64
  free-value = rw h

  -- the bitmap's and the summary's inodes have numbers
  pub root-room : root_ino g + 2 < 2 ^ 64
  unfolding root_ino root_chunk ino_of fsb_of
  root-room =
      let z = sized in
      let b = root_chunk_of g.features g.sectsize g.inodesize g.blocksize in
      let w = blocks-least g z 0 in
      let r = z.places.chunk-room in
      let f = (fitting g z 0 b some-group (omega arith)).ino-most 0 (some-inode g z) in
      omega arith

-- a state that is not refused is that of accepted plans
there-at : (n m : ℕ) (t : Bool) → eqb n 0 ≡ t → cond t m n ≡ 0 → n ≡ 0
there-at n m true e z = eqb-true n 0 e
there-at n m false e z = z

pub plans-there : (g : Geometry) (k : ℕ) → state_number g k ≡ 0 → plans_number g ≡ 0
unfolding state_number
plans-there g k e = there-at (plans_number g) (when (leb g.agcount k) no_place 0) (eqb (plans_number g) 0) refl e

-- its number, of accepted plans: 29 for a group that is not there
pub no-group : (g : Geometry) (k n : ℕ) → n ≡ plans_number g → n ≡ 0 → g.agcount ≤ k → state_number g k ≡ no_place
unfolding state_number when
no-group g k n p e h = rw (← p, eq-eqb n 0 e, le-leb g.agcount k h)

pub some-state : (g : Geometry) (k n : ℕ) → n ≡ plans_number g → n ≡ 0 → k < g.agcount → state_number g k ≡ 0
unfolding state_number when
some-state g k n p e h = rw (← p, eq-eqb n 0 e, lt-leb g.agcount k h)
