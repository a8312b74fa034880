-- What is 0 in an accepted run.
-- Assumes nothing.
use mathlib.Core.Path.{◌≡◌, refl, ap, ◌∙◌}
use mathlib.Core.Bool.{Bool, true, false, cond}
use mathlib.Core.List.{List, []}
use Prim.Native.Nat.{ℕ}
use borrow.Author.Tests.{eqb-true, eqb-false, eq-eqb}
use lib.Dec.{eqb}
use Rattle.refusals.specs.Numbers.{malformed}
use Rattle.request_input.specs.Records.{record_at, split_records, records, starts_with_device, well_formed}
use Rattle.request.specs.declared.Request.{Request}
use Rattle.request.specs.Parse.{parse_def}
use Rattle.request.specs.Defaults.{time_of}
use Rattle.plan_totals.specs.Totals.{plans_number}
use Rattle.profile.specs.Rules.{profile_number}
use Rattle.run.specs.declared.Run.{Run}
use Rattle.run.specs.Runs.{or_next, step_of, time_refusal, bare_number, run_number, no_run, run_of, accepted}

-- the first of two numbers that isn't 0 is 0: so are both
none-at : (a b : ℕ) (t : Bool) → eqb a 0 ≡ t → cond t b a ≡ 0 → (a ≡ 0) × (b ≡ 0)
none-at a b true e z = (eqb-true a 0 e, z)
none-at a b false e z = absurd (eqb-false a 0 e z)

pub none : (a b : ℕ) → or_next a b ≡ 0 → (a ≡ 0) × (b ≡ 0)
none a b z = none-at a b (eqb a 0) refl z

zero-at : (n : ℕ) (t : Bool) (r : Run) → eqb n 0 ≡ t → (cond t r (no_run n)).number ≡ 0 → n ≡ 0
zero-at n true r e z = eqb-true n 0 e
zero-at n false r e z = z

pub run-zero : (r : Request) → (run_of r).number ≡ 0 → run_number r ≡ 0
unfolding run_of
run-zero r e = zero-at (run_number r) (eqb (run_number r) 0) _ refl e

its-geometry : (r : Request) → run_number r ≡ 0 → (run_of r).geometry ≡ (step_of r).geometry
unfolding run_of
its-geometry r e = rw (eq-eqb (run_number r) 0 e)

-- so is the run without the profile
pub bare-zero : (r : Request) → run_number r ≡ 0 → bare_number r ≡ 0
unfolding run_number
bare-zero r e = (none (bare_number r) _ e).0

pub profile-zero : (r : Request) → run_number r ≡ 0 → profile_number r.profile (step_of r).geometry r.params.label ≡ 0
unfolding run_number
profile-zero r e = (none (bare_number r) _ e).1

step-plans : (r : Request) → bare_number r ≡ 0 → plans_number (step_of r).geometry ≡ 0
unfolding bare_number
step-plans r e =
    let p = plans_number (step_of r).geometry in
    let t = time_refusal (step_of r).geometry (time_of r.params) in
    (none p t (none (step_of r).number (or_next p t) (none r.number (or_next (step_of r).number (or_next p t)) e).1).1).0

first-refusal : (r : Request) → r.number ≡ malformed → run_number r ≡ malformed
unfolding run_number bare_number
first-refusal r e = rw e

first-number : (r : Request) → r.number ≡ malformed → (run_of r).number ≡ malformed
unfolding run_of
first-number r e = rw (first-refusal r e)

-- its plans are accepted
pub plans-zero : (xs : List ℕ) → (accepted xs).number ≡ 0 → plans_number (accepted xs).geometry ≡ 0
unfolding accepted
plans-zero xs e =
    let z = run-zero (parse_def xs) e in
    ap plans_number (its-geometry (parse_def xs) z) ∙ step-plans (parse_def xs) (bare-zero (parse_def xs) z)

-- AN EMPTY INPUT IS NO RUN: 28
pub empty-malformed : (parse_def []).number ≡ malformed
unfolding record_at split_records records starts_with_device well_formed parse_def
empty-malformed = refl

pub empty-refused : (accepted []).number ≡ malformed
unfolding accepted
empty-refused = first-number (parse_def []) empty-malformed
