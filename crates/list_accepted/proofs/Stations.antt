-- Station cases read from the bytes that their runs leave: root inode and free count of the finished superblock.
-- Assumes nothing.
use Rattle.std.specs.Prelude.{Option, None}
use mathlib.Core.Path.{◌≡◌, refl, ap, ◌∙◌}
use mathlib.Core.Bool.{Bool, true, false, cond}
use mathlib.Core.List.{List, [], ◌∷◌}
use Prim.Native.Nat.{ℕ, zero, suc, ◌*◌, ◌^◌, ◌<◌}
use native.Mathlib.Omega.{arith}
use borrow.Author.Tests.{eqb-true}
use lib.Dec.{T, eqb, eqb→eq, lit<}
use lib.IntN.{pos}
use lib.ListN.{length, get_or}
use Rattle.arith.specs.Choice.{when}
use Rattle.endian.proofs.Fields.{and_left, and_right}
use Rattle.params.specs.declared.Timestamp.{Timestamp}
use Rattle.params.specs.Params.{all_features, no_options}
use Rattle.geometry.specs.declared.Geometry.{Geometry}
use Rattle.geometry.specs.declared.Computed.{Computed}
use Rattle.geometry.specs.Limits.{mib}
use Rattle.geometry.specs.Compute.{compute_def}
use Rattle.inode_time.specs.Time.{not_early, shifted, time_inside, time_number}
use Rattle.geometry_places.specs.Answers.{root_ino}
use Rattle.plan_totals.specs.Totals.{plans_number, free_count}
use Rattle.sb_states.specs.States.{finished_state}
use Rattle.request.specs.Defaults.{or_epoch, time_of}
use Rattle.profile.proofs.Labels.{not-under}
use Rattle.run.specs.Runs.{step_of, time_refusal, run_of}
use Rattle.stations.specs.Stations.{StationCase, station_refused, accepted_plans, plans_by, plans_of, shown_step, same, passes, all_stations, stations, example_rows, example}
use Rattle.stations.proofs.StationCases.{hold}
use Rattle.list_accepted.specs.Accepted.{TypedRequest, AcceptedRun}
use Rattle.list_accepted.specs.Superblocks.{left_in, root_field, free_field, root_named, free_named}
use Rattle.list_accepted.specs.Stations.{station, request_of}
use Rattle.list_accepted.proofs.Typed.{plain-typed}
use Rattle.list_accepted.proofs.Runs.{number-zero, run-bounds, run-geometry}
use Rattle.list_accepted.proofs.Heads.{run-says}

-- ---- what a row of the table says

module _ (root free : ℕ) (rest : List ℕ) where
  -- a geometry with accepted plans and these two numbers
  abbrev Row : ℕ → Geometry → Type 0
  Row plans g = (plans ≡ 0) × (root_ino g ≡ root) × (free_count g ≡ free)

  plans-row : (g : Geometry) (plans : ℕ) → T (same (plans_by plans g) (0 ∷ root ∷ free ∷ rest)) → Row plans g
  unfolding plans_by accepted_plans same finished_state
  plans-row g zero t = (refl, eqb→eq (root_ino g) root (and_left (eqb (root_ino g) root) _ t), eqb→eq (free_count g) free (and_left (eqb (free_count g) free) _ (and_right (eqb (root_ino g) root) _ t)))
  plans-row g (suc n) t = absurd (let e = eqb→eq (suc n) 0 (and_left (eqb (suc n) 0) _ t) in omega arith)

  step_row : (g : Geometry) (n : ℕ) (b : Bool) → eqb n 0 ≡ b → T (same (cond b (plans_by (plans_number g) g) []) (0 ∷ root ∷ free ∷ rest)) → (b ≡ true) × Row (plans_number g) g
  unfolding same
  step_row g n true e t = (refl, plans-row g (plans_number g) t)
  step_row g n false e t = absurd t

-- a time that is not given can be stored
epoch-stored : (big : Bool) → time_number big (pos 0) 0 ≡ 0
unfolding time_inside not_early shifted
epoch-stored true = refl
epoch-stored false = refl

absent-stored : (big : Bool) (o : Option Timestamp) → o ≡ None → time_number big (or_epoch o).secs (or_epoch o).nsecs ≡ 0
absent-stored big o e = ap (λ (t : Option Timestamp). time_number big (or_epoch t).secs (or_epoch t).nsecs) e ∙ epoch-stored big

module _ (c : StationCase) (root free : ℕ) (rest : List ℕ) (row : c.plans ≡ 0 ∷ root ∷ free ∷ rest) (pass : T (passes c)) (plain : c.options.time ≡ None) (typed : TypedRequest (request_of c)) where
  abbrev step : Computed
  step = compute_def c.options c.device 512 512

  planned-row : (eqb step.number 0 ≡ true) × Row root free rest (plans_number step.geometry) step.geometry
  unfolding passes plans_of
  planned-row =
      step_row root free rest step.geometry step.number (eqb step.number 0) refl
      (rw row at (and_right (same (shown_step step) c.geometry) _ pass))

  timely : time_refusal step.geometry (time_of c.options) ≡ 0
  unfolding time_refusal time_of
  timely = absent-stored step.geometry.features.bigtime c.options.time plain

  -- its run is accepted
  pub station-accepted : AcceptedRun (request_of c)
  unfolding step_of
  station-accepted =
      record { typed = typed; number = number-zero (request_of c) refl (eqb-true step.number 0 planned-row.0) planned-row.1.0 timely (not-under step.geometry c.options.label) }

  -- AND LEAVES THE ROW'S NUMBERS IN GROUP 0'S SUPERBLOCK
  pub station-says : (root_field (left_in (run_of (request_of c)) 0) ≡ root) × (free_field (left_in (run_of (request_of c)) 0) ≡ free)
  unfolding root_named free_named when step_of
  station-says =
      let a = station-accepted in
      let b = (run-bounds (request_of c) a).groups.count-least in
      let s = run-says (request_of c) a 0 (omega arith) in
      let g = run-geometry (request_of c) a in
      (s.root ∙ ap root_ino g ∙ planned-row.1.1, s.free ∙ ap free_count g ∙ planned-row.1.2)

-- ---- K1 and K2

every : (cs : List StationCase) (n : ℕ) (d : StationCase) → n < length cs → T (all_stations cs) → T (passes (get_or cs n d))
unfolding all_stations
every [] n d h t = absurd (omega arith)
every (c ∷ cs) zero d h t = and_left (passes c) (all_stations cs) t
every (c ∷ cs) (suc n) d h t = every cs n d (omega arith) (and_right (passes c) (all_stations cs) t)

passed : (n : ℕ) → n < length stations → T (passes (station n))
passed n h = every stations n (station_refused no_options 0 0) h (and_left (all_stations stations) (same example_rows example) hold)

-- K1: a disk of 1 GiB is accepted, and its superblock has root inode 128 and free count 245,724
pub k1-accepted : AcceptedRun (request_of (station 0))
unfolding stations
k1-accepted = station-accepted (station 0) 128 245724 (16 ∷ 2 ∷ 1 ∷ []) refl (passed 0 (lit< tt)) refl (plain-typed all_features None false (1024 * mib) (lit< tt) (lit< tt))

pub k1-says : (root_field (left_in (run_of (request_of (station 0))) 0) ≡ 128) × (free_field (left_in (run_of (request_of (station 0))) 0) ≡ 245724)
unfolding stations
k1-says = station-says (station 0) 128 245724 (16 ∷ 2 ∷ 1 ∷ []) refl (passed 0 (lit< tt)) refl (plain-typed all_features None false (1024 * mib) (lit< tt) (lit< tt))

-- K2: one of 300 MiB has free count 60,380
pub k2-says : free_field (left_in (run_of (request_of (station 2))) 0) ≡ 60380
unfolding stations
k2-says = (station-says (station 2) 128 60380 (16 ∷ 2 ∷ 1 ∷ []) refl (passed 2 (lit< tt)) refl (plain-typed all_features None false (300 * mib) (lit< tt) (lit< tt))).1
