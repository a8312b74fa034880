-- A run: what the input records ask for, accepted where its geometry, all its plans and its time are, and under the profile its rules hold.
-- Assumes nothing.
use Rattle.std.specs.Prelude.{cond, List, ℕ, eqb, pos, replicate}
use Rattle.params.specs.declared.Timestamp.{Timestamp}
use Rattle.geometry.specs.declared.Geometry.{Geometry}
use Rattle.geometry.specs.declared.Computed.{Computed}
use Rattle.geometry.specs.Compute.{zero_geometry, compute_def}
use Rattle.inode_time.specs.Time.{time_number}
use Rattle.request.specs.declared.Request.{Request}
use Rattle.request.specs.Parse.{parse_def}
use Rattle.request.specs.Defaults.{uuid_of, time_of, seed_of}
use Rattle.plan_totals.specs.Totals.{plans_number}
use Rattle.profile.specs.Rules.{profile_number}
use Rattle.run.specs.declared.Run.{Run}

-- the first of two numbers that isn't 0
abbrev pub or_next : ℕ → ℕ → ℕ
or_next a b = cond (eqb a 0) b a

-- what the geometry step answers
unfoldable pub step_of : Request → Computed
step_of r = compute_def r.params r.device r.logical r.physical

-- 26 where the geometry's inodes can't store the time
unfoldable pub time_refusal : Geometry → Timestamp → ℕ
time_refusal g t = time_number g.features.bigtime t.secs t.nsecs

-- without the profile: 28, then the geometry step's number, then that of the plans, then that of the time
unfoldable pub bare_number : Request → ℕ
bare_number r =
    or_next r.number (or_next (step_of r).number
    (or_next (plans_number (step_of r).geometry) (time_refusal (step_of r).geometry (time_of r.params))))

-- and then, under the profile, 37 where the geometry or the label that was asked for breaks a rule
unfoldable pub run_number : Request → ℕ
run_number r = or_next (bare_number r) (profile_number r.profile (step_of r).geometry r.params.label)

abbrev pub no_run : ℕ → Run
no_run n = record { number = n; geometry = zero_geometry; uuid = replicate 16 0; time = record { secs = pos 0; nsecs = 0 }; seed = 0 }

-- the run of a request, or its refusal
unfoldable pub run_of : Request → Run
run_of r =
    cond (eqb (run_number r) 0)
    (record { number = 0; geometry = (step_of r).geometry; uuid = uuid_of r.params; time = time_of r.params; seed = seed_of r.params })
    (no_run (run_number r))

-- `accept`: the run that input records ask for
unfoldable pub accepted : List ℕ → Run
accepted xs = run_of (parse_def xs)
