-- Every checksum in the heads that an accepted run leaves verifies.
-- Assumes nothing.
use mathlib.Core.Path.{◌≡◌, sym, subst}
use mathlib.Core.Bool.{true}
use mathlib.Core.List.{List}
use Prim.Native.Nat.{ℕ, ◌<◌}
use lib.Dec.{eqb}
use Rattle.seqs.proofs.Laws.{choose-elim}
use Rattle.geometry.specs.declared.Geometry.{Geometry}
use Rattle.plan.specs.Plan.{planned}
use Rattle.plan_same.specs.Same.{is_plan}
use Rattle.plan_same.proofs.Planners.{planned-is-plan}
use Rattle.list_spec.proofs.Whole.{group-planned}
use Rattle.sb_states.specs.States.{state_of, finished_state}
use Rattle.request.specs.declared.Request.{Request}
use Rattle.run.specs.Runs.{run_of}
use Rattle.list_records.specs.Device.{Device}
use Rattle.list_spec.specs.Listing.{head_written, head_finished, head_left}
use Rattle.list_accepted.specs.Accepted.{AcceptedRun, Source}
use Rattle.list_accepted.proofs.Runs.{source_of, source-label, source-plans, source-uuid}
use Rattle.reader_exact.specs.Disk.{head_on, formatted}
use Rattle.reader_exact.proofs.Heads.{some-group}
use Rattle.reader_exact.proofs.Disk.{head-formatted}
use Rattle.reader_decoded.specs.Checks.{Checked}
use Rattle.reader_decoded.proofs.Checks.{head-checked}

module _ (g : Geometry) (u : List ℕ) (s : Source g u) where
  its-plan : (k : ℕ) → k < g.agcount → is_plan g (planned g k).plan ≡ true
  its-plan k h = planned-is-plan g k (group-planned g (source-label g u s) (source-plans g u s) k h)

  finished-checked : Checked g (head_finished g u)
  unfolding head_finished
  finished-checked =
      head-checked g (planned g 0).plan u (finished_state g u) (source-label g u s) (its-plan 0 (some-group g u s)) (source-uuid g u s)

  written-checked : (k : ℕ) → k < g.agcount → Checked g (head_written g u k)
  unfolding head_written
  written-checked k h = head-checked g (planned g k).plan u (state_of g u k) (source-label g u s) (its-plan k h) (source-uuid g u s)

  left-checked : (k : ℕ) → k < g.agcount → Checked g (head_left g u k)
  unfolding head_left
  left-checked k h =
      choose-elim (λ (xs : List ℕ). Checked g xs) (eqb k 0) (head_finished g u) (head_written g u k) (λ t. finished-checked) (λ t. written-checked k h)

pub heads-checked : (r : Request) (a : AcceptedRun r) (old : Device) (k : ℕ) → k < (run_of r).geometry.agcount
    → Checked (run_of r).geometry (head_on (run_of r).geometry (formatted r old) k)
heads-checked r a old k h =
    subst (λ (xs : List ℕ). Checked (run_of r).geometry xs) (sym (head-formatted r a old k h))
    (left-checked (run_of r).geometry (run_of r).uuid (source_of r a) k h)
