-- `plan_free::taking::find` meets its contract. Invariant: no record before i holds the run, so the first that does is found from i on.
-- Assumes nothing.
use mathlib.Core.Path.{◌≡◌}
use Prim.Native.Nat.{◌+◌, ◌-◌, ◌≤◌}
use lib.Seq.{slice}
use Rattle.seqs.specs.Lists.{first_index}
use Rattle.plan_free.specs.Free.{free_of, holds_run}
use Rattle.plan_free.proofs.taking.find.Given as goal

abbrev pub invariant-loop-i : goal.invariant-loop-i
invariant-loop-i l = (l.i ≤ l.n) × (first_index (holds_run l.s l.e) (free_of l.l) ≡ l.i + first_index (holds_run l.s l.e) (slice l.i l.n l.l.recs))

abbrev pub decreases-loop-i : goal.decreases-loop-i
decreases-loop-i l = l.n - l.i
