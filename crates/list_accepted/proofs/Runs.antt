-- What an accepted run has: its geometry is an answer with accepted plans and time, its label and UUID are bytes, and its blocks lie on the device.
-- Assumes nothing.
use mathlib.Core.Path.{◌≡◌, refl, sym, ap, ◌∙◌}
use mathlib.Core.Bool.{true}
use mathlib.Core.List.{List}
use Prim.Native.Nat.{ℕ, ◌*◌, ◌≤◌}
use borrow.Author.Tests.{eq-eqb}
use lib.ListN.{length}
use Rattle.endian.specs.Bytes.{Below}
use Rattle.geometry.specs.declared.Geometry.{Geometry}
use Rattle.geometry.specs.Compute.{geometry_of}
use Rattle.geometry_answers.specs.Named.{is_answer}
use Rattle.geometry_answers.specs.Answers.{Answered, TypedAnswer}
use Rattle.geometry_answers.proofs.Again.{chosen, its-geometry, bytes, label_kept}
use Rattle.geometry_answers.proofs.Exact.{complete}
use Rattle.geometry_layout.specs.Bounds.{Bounds}
use Rattle.geometry_layout.proofs.Bounding.{answered-bounds}
use Rattle.request.specs.declared.Request.{Request}
use Rattle.request.specs.Defaults.{uuid_of, time_of, seed_of}
use Rattle.plan_totals.specs.Totals.{plans_number}
use Rattle.profile.specs.Rules.{profile_number}
use Rattle.run.specs.declared.Run.{Run}
use Rattle.run.specs.Runs.{or_next, step_of, time_refusal, bare_number, run_number, run_of}
use Rattle.run.proofs.Accepted.{none, bare-zero, profile-zero}
use Rattle.list_accepted.specs.Accepted.{AcceptedRun, Source}
use Rattle.list_accepted.proofs.Bytes.{below_all, label-below}

all_none : (a b c d : ℕ) → a ≡ 0 → b ≡ 0 → c ≡ 0 → d ≡ 0 → or_next a (or_next b (or_next c d)) ≡ 0
all_none a b c d e f g h = rw (e, f, g, h) refl

-- what makes a run accepted
pub number-zero : (r : Request) → r.number ≡ 0 → (step_of r).number ≡ 0 → plans_number (step_of r).geometry ≡ 0 → time_refusal (step_of r).geometry (time_of r.params) ≡ 0
    → profile_number r.profile (step_of r).geometry r.params.label ≡ 0 → run_number r ≡ 0
unfolding run_number bare_number
number-zero r e f g h p =
    rw (all_none r.number (step_of r).number (plans_number (step_of r).geometry) (time_refusal (step_of r).geometry (time_of r.params)) e f g h) p

-- and its records are well-formed
pub request-zero : (r : Request) → run_number r ≡ 0 → r.number ≡ 0
unfolding bare_number
request-zero r e = (none r.number _ (bare-zero r e)).0

module _ (r : Request) (a : AcceptedRun r) where
  -- ---- its numbers

  abbrev step : Geometry
  step = (step_of r).geometry

  well-formed : (r.number ≡ 0) × (or_next (step_of r).number (or_next (plans_number step) (time_refusal step (time_of r.params))) ≡ 0)
  unfolding bare_number
  well-formed = none _ _ (bare-zero r a.number)

  step-accepted : ((step_of r).number ≡ 0) × (or_next (plans_number step) (time_refusal step (time_of r.params)) ≡ 0)
  step-accepted = none _ _ well-formed.1

  rest-accepted : (plans_number step ≡ 0) × (time_refusal step (time_of r.params) ≡ 0)
  rest-accepted = none _ _ step-accepted.1

  -- the records, and the geometry step
  pub request-number : r.number ≡ 0
  request-number = well-formed.0

  pub step-number : (step_of r).number ≡ 0
  step-number = step-accepted.0

  -- ---- its parts

  run_is : run_of r ≡ record { number = 0; geometry = step; uuid = uuid_of r.params; time = time_of r.params; seed = seed_of r.params }
  unfolding run_of
  run_is = rw (eq-eqb (run_number r) 0 a.number)

  pub run-number : (run_of r).number ≡ 0
  run-number = ap (λ (x : Run). x.number) run_is

  pub run-geometry : (run_of r).geometry ≡ (step_of r).geometry
  run-geometry = ap (λ (x : Run). x.geometry) run_is

  pub run-uuid : (run_of r).uuid ≡ uuid_of r.params
  run-uuid = ap (λ (x : Run). x.uuid) run_is

  pub run-time : (run_of r).time ≡ time_of r.params
  run-time = ap (λ (x : Run). x.time) run_is

  pub run-seed : (run_of r).seed ≡ seed_of r.params
  run-seed = ap (λ (x : Run). x.seed) run_is

  -- its plans, and its time, are accepted
  pub run-plans : plans_number (run_of r).geometry ≡ 0
  run-plans = ap plans_number run-geometry ∙ rest-accepted.0

  pub run-timely : time_refusal (run_of r).geometry (run_of r).time ≡ 0
  run-timely = rw (run-geometry, run-time) rest-accepted.1

  -- under the profile its rules hold
  pub run-profile : profile_number r.profile (run_of r).geometry r.params.label ≡ 0
  run-profile = ap (λ (g : Geometry). profile_number r.profile g r.params.label) run-geometry ∙ profile-zero r a.number

  -- ---- its geometry

  -- it is the answer for the request's options and device
  pub run-answered : Answered (run_of r).geometry
  unfolding step_of
  run-answered =
      let n = step-number in
      let g = sym run-geometry in
      record {
        options = r.params;
        label = a.typed.options.label-size;
        device = r.device;
        small = a.typed.device;
        logical = r.logical;
        physical = r.physical;
        accepted = λ i. record { number = n i; geometry = g i };
      }

  pub run_typed : TypedAnswer (run_of r).geometry
  unfolding run-answered
  run_typed = record { answered = run-answered; options = a.typed.options; logical = a.typed.logical; physical = a.typed.physical }

  pub run-answer : is_answer (run_of r).geometry ≡ true
  run-answer = complete (run_of r).geometry run-answered

  pub run-bounds : Bounds (run_of r).geometry
  run-bounds = answered-bounds (run_of r).geometry run-answered

  -- its blocks lie on the device
  pub run_inside : (run_of r).geometry.dblocks * (run_of r).geometry.blocksize ≤ r.device
  unfolding step_of
  run_inside = rw run-geometry (bytes r.params r.device r.logical r.physical step-number).0

  -- ---- label and UUID

  pub run-label : length (run_of r).geometry.label ≡ 12
  unfolding step_of
  run-label = rw run-geometry (label_kept r.params r.device r.logical r.physical a.typed.options.label-size step-number)

  chosen-below : Below 256 (chosen r.params r.device r.logical r.physical).label
  unfolding geometry_of
  chosen-below = label-below r.params.label.length r.params.label.bytes (below_all 256 r.params.label.bytes a.typed.options.label-bytes)

  pub run-label-bytes : Below 256 (run_of r).geometry.label
  unfolding step_of
  run-label-bytes = rw (run-geometry, its-geometry r.params r.device r.logical r.physical step-number) chosen-below

  pub run-uuid-length : length (run_of r).uuid ≡ 16
  run-uuid-length = rw run-uuid a.typed.uuid-size

  pub run-uuid-bytes : Below 256 (run_of r).uuid
  run-uuid-bytes = rw run-uuid (below_all 256 (uuid_of r.params) a.typed.uuid-bytes)

-- ---- a geometry and a UUID that some accepted run has

module _ (g : Geometry) (uuid : List ℕ) (s : Source g uuid) where
  pub source-plans : plans_number g ≡ 0
  source-plans = ap plans_number (sym s.geometry) ∙ run-plans s.request s.accepted

  pub source-answer : is_answer g ≡ true
  source-answer = ap is_answer (sym s.geometry) ∙ run-answer s.request s.accepted

  pub source-label : length g.label ≡ 12
  source-label = rw (← s.geometry) (run-label s.request s.accepted)

  pub source-label-bytes : Below 256 g.label
  source-label-bytes = rw (← s.geometry) (run-label-bytes s.request s.accepted)

  pub source-uuid : length uuid ≡ 16
  source-uuid = rw (← s.uuid) (run-uuid-length s.request s.accepted)

  pub source-uuid-bytes : Below 256 uuid
  source-uuid-bytes = rw (← s.uuid) (run-uuid-bytes s.request s.accepted)

-- an accepted run is one for its own geometry and UUID
pub source_of : (r : Request) → AcceptedRun r → Source (run_of r).geometry (run_of r).uuid
source_of r a = record { request = r; accepted = a; geometry = refl; uuid = refl }
