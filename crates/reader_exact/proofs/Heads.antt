-- What the reader needs of a head and a log block that an accepted run leaves: their lengths, and what group 0's names.
-- Assumes nothing.
use mathlib.Core.Path.{◌≡◌}
use mathlib.Core.Bool.{true}
use mathlib.Core.List.{List}
use Prim.Native.Nat.{ℕ, ◌^◌, ◌<◌, ◌≤◌}
use native.Mathlib.Nat.{mul-le-mul_right}
use lib.Pow.{pow_mono}
use native.Mathlib.Omega.{arith}
use lib.Dec.{eqb, lit<}
use lib.ListN.{length}
use Rattle.arith.specs.Choice.{bit}
use Rattle.endian.specs.Bytes.{be_at, Octets}
use Rattle.seqs.proofs.Laws.{choose-elim}
use Rattle.geometry.specs.declared.Geometry.{Geometry}
use Rattle.geometry_answers.specs.Answers.{TypedGeometry}
use Rattle.geometry_answers.specs.Named.{names_of, is_answer}
use Rattle.geometry_layout.specs.Bounds.{Bounds}
use Rattle.geometry_layout.proofs.Bounding.{answer-bounds}
use Rattle.geometry_counts.proofs.Room.{prealloc-pos}
use Rattle.plan.specs.Plan.{planned}
use Rattle.plan_same.specs.Same.{is_plan}
use Rattle.plan_same.proofs.Planners.{planned-is-plan}
use Rattle.head_bytes.specs.Head.{head_length}
use Rattle.head_bytes.proofs.Bytes.{head_first, head-length}
use Rattle.sb_states.specs.States.{finished_state, state_of}
use Rattle.list_spec.specs.Listing.{log_block, head_written, head_finished, head_left}
use Rattle.list_spec.proofs.Whole.{group-planned}
use Rattle.list_accepted.specs.Accepted.{Source}
use Rattle.list_accepted.proofs.Bytes.{below_at}
use Rattle.list_accepted.proofs.Sizes.{block-least, block-most}
use Rattle.list_accepted.proofs.Runs.{source-plans, source-answer, source-label, source-label-bytes, source-uuid, source-uuid-bytes}
use Rattle.list_accepted.proofs.Sound.{sound}
use Rattle.reader_names.specs.Named.{names_at, named_by, uuid_at}
use Rattle.reader_names.proofs.Back.{names-back, named_back, uuid-back, log_back, progress-back}
use Rattle.reader_exact.specs.Left.{Handed}

-- a sector is at most a block
pub sector-most : (g : Geometry) → Bounds g → g.sectsize ≤ g.blocksize
sector-most g b =
    let w : 2 ^ g.sectlog ≤ 2 ^ g.blocklog = pow_mono b.sizes.sector-block in
    omega (arith, b.sizes.sector-power, b.sizes.block-power)

-- a geometry with the bounds of an answer has its types
pub typed : (g : Geometry) → Bounds g → length g.label ≡ 12 → Octets g.label → TypedGeometry g
typed g b l o =
    let s = b.sizes in
    let block = block-most g b in
    let sector = sector-most g b in
    let inode : 2 ^ g.inodelog ≤ 2 ^ 11 = pow_mono {j = 11} s.inode-most in
    record {
      blocksize = omega arith;
      sectsize = omega arith;
      inodesize = omega (arith, s.inode-power);
      imaxpct = omega (arith, s.imaxpct-most);
      label-size = l;
      label-bytes = o;
    }

-- a head has a block at least
pub head-block : (g : Geometry) → g.blocksize ≤ head_length g
unfolding head_length
head-block g = omega (arith, mul-le-mul_right g.blocksize (prealloc-pos g.features g.sectsize g.blocksize))

-- which is longer than a sector of 512 bytes
pub head-least : (g : Geometry) → Bounds g → 512 ≤ head_length g
head-least g b = omega (arith, head-block g, block-least g b)

module _ (g : Geometry) (u : List ℕ) (s : Source g u) where
  pub source-bounds : Bounds g
  source-bounds = answer-bounds g (source-label g u s) (source-answer g u s)

  pub source-handed : Handed g u
  source-handed =
      record {
        geometry = typed g source-bounds (source-label g u s) (below_at 256 g.label (lit< tt) (source-label-bytes g u s));
        uuid-size = source-uuid g u s;
        uuid-bytes = below_at 256 u (lit< tt) (source-uuid-bytes g u s);
      }

  -- group 0 is there
  pub some-group : 0 < g.agcount
  some-group = omega (arith, source-bounds.groups.count-least)

  plan-there : (k : ℕ) → k < g.agcount → is_plan g (planned g k).plan ≡ true
  plan-there k h = planned-is-plan g k (group-planned g (source-label g u s) (source-plans g u s) k h)

  pub finished-length : length (head_finished g u) ≡ head_length g
  unfolding head_finished
  finished-length = head-length g (planned g 0).plan u (finished_state g u) (source-label g u s) (plan-there 0 some-group)

  pub written-length : (k : ℕ) → k < g.agcount → length (head_written g u k) ≡ head_length g
  unfolding head_written
  written-length k h = head-length g (planned g k).plan u (state_of g u k) (source-label g u s) (plan-there k h)

  -- EVERY HEAD THAT IS LEFT HAS THE GEOMETRY'S LENGTH
  pub left-length : (k : ℕ) → k < g.agcount → length (head_left g u k) ≡ head_length g
  unfolding head_left
  left-length k h = choose-elim (λ (xs : List ℕ). length xs ≡ head_length g) (eqb k 0) (head_finished g u) (head_written g u k) (λ t. finished-length) (λ t. written-length k h)

  -- THE LOG BLOCK IS ONE BLOCK
  pub log-length : length (log_block g u) ≡ g.blocksize
  log-length = rw (← s.geometry, ← s.uuid) (sound s.request s.accepted).log-long

  -- GROUP 0'S NAMES THE GEOMETRY, UNDER ITS SIZING, AND THE UUID
  pub left-named : named_by g.roomy (head_left g u 0) ≡ record { number = 0; geometry = g }
  unfolding head_left head_finished finished_state
  left-named =
      named_back g (finished_state g u) (source-uuid g u s) (source-label g u s) (source-answer g u s) (head_left g u 0) (head_first g (planned g 0).plan u (finished_state g u))

  pub left-uuid : uuid_at (head_left g u 0) ≡ u
  unfolding head_left head_finished finished_state
  left-uuid =
      uuid-back g (finished_state g u) (source-uuid g u s) (source-label g u s) (source-answer g u s) (head_left g u 0) (head_first g (planned g 0).plan u (finished_state g u))

  -- AND IS FINISHED
  pub left-progress : be_at 1 126 (head_left g u 0) ≡ 0
  unfolding head_left head_finished finished_state bit
  left-progress =
      progress-back g (finished_state g u) (source-uuid g u s) (source-label g u s) (source-answer g u s) (head_left g u 0) (head_first g (planned g 0).plan u (finished_state g u))

-- an answer's head in group 0 has its log's blocks, and is finished, whether its plans are accepted or not
pub left-log : (g : Geometry) (u : List ℕ) → length g.label ≡ 12 → is_answer g ≡ true → length u ≡ 16 → be_at 4 96 (head_left g u 0) ≡ g.logblocks
unfolding head_left head_finished finished_state
left-log g u l a n = log_back g (finished_state g u) n l a (head_left g u 0) (head_first g (planned g 0).plan u (finished_state g u))

pub left-done : (g : Geometry) (u : List ℕ) → length g.label ≡ 12 → is_answer g ≡ true → length u ≡ 16 → be_at 1 126 (head_left g u 0) ≡ 0
unfolding head_left head_finished finished_state bit
left-done g u l a n = progress-back g (finished_state g u) n l a (head_left g u 0) (head_first g (planned g 0).plan u (finished_state g u))

-- what an answer's head in group 0 names, whether its plans are accepted or not
pub left-names : (g : Geometry) (u : List ℕ) → length g.label ≡ 12 → is_answer g ≡ true → length u ≡ 16 → names_at (head_left g u 0) ≡ names_of g
unfolding head_left head_finished finished_state
left-names g u l a n = names-back g (finished_state g u) n l a (head_left g u 0) (head_first g (planned g 0).plan u (finished_state g u))
