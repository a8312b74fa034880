-- A geometry is that of an accepted run under the profile exactly where it is that of an accepted run and the disk is within the profile.
-- Where it is, the run is asked for with the label of the disk, without the zeros that fill its field up.
-- Assumes nothing.
use mathlib.Core.Path.{◌≡◌, refl, sym, ap, subst, ◌∙◌}
use mathlib.Core.Bool.{Bool, true, false}
use mathlib.Core.List.{List}
use Prim.Native.Nat.{ℕ, ◌<◌}
use native.Mathlib.Omega.{arith}
use borrow.Author.Tests.{le-ltb}
use lib.Dec.{ltb, lit<}
use lib.ListN.{length}
use Rattle.seqs.proofs.Laws.{choose-elim}
use Rattle.params.specs.declared.Label.{Label}
use Rattle.params.specs.declared.Params.{Params}
use Rattle.params.specs.Params.{with_label}
use Rattle.geometry.specs.Sizes.{sizes_of}
use Rattle.geometry.specs.declared.Geometry.{Geometry}
use Rattle.geometry.specs.declared.Computed.{Computed}
use Rattle.geometry.specs.Limits.{min_group}
use Rattle.geometry.specs.Groups.{trim}
use Rattle.geometry.specs.Log.{last_refusals}
use Rattle.geometry.specs.Compute.{with_groups, asked_groups, with_sizes, chosen_of, refusals, refusal_of, label_of, geometry_of, compute_def}
use Rattle.geometry_answers.specs.Answers.{TypedOptions}
use Rattle.geometry_answers.specs.Named.{is_answer}
use Rattle.geometry_answers.proofs.Again.{chosen, number, is-accepted, its-geometry}
use Rattle.geometry_answers.proofs.Tests.{all-clear, last-clear}
use Rattle.plan_totals.specs.Totals.{plans_number}
use Rattle.request.specs.declared.Request.{Request}
use Rattle.request.specs.Defaults.{uuid_of, time_of, seed_of}
use Rattle.profile.specs.Rules.{in_profile, profile_number, trimmed, label_on}
use Rattle.profile.proofs.Labels.{number-allowed, allowed-number, field-again, label-short, disk-within}
use Rattle.run.specs.Runs.{step_of, time_refusal, run_number, run_of}
use Rattle.list_accepted.specs.Accepted.{TypedRequest, AcceptedRun, Source}
use Rattle.list_accepted.proofs.Bytes.{below_at}
use Rattle.list_accepted.proofs.Runs.{number-zero, request-number, step-number, run-geometry, run-uuid, run-time, run-plans, run-timely, run-profile, source-label, source-label-bytes}
use Rattle.reader_names.specs.Sizings.{plain}
use Rattle.reader_exact.specs.Left.{reported}
use Rattle.reader_admit.specs.Profile.{ProfileSource}

-- ---- the label in the geometry step

-- it reads of the label whether it is too long, and the field that it fills
label-alone : (p : Params) (l : Label) (device logical physical : ℕ) → ltb 12 l.length ≡ ltb 12 p.label.length
    → label_of l.length l.bytes ≡ label_of p.label.length p.label.bytes → compute_def (with_label p l) device logical physical ≡ compute_def p device logical physical
unfolding compute_def refusal_of refusals chosen_of with_sizes with_groups sizes_of geometry_of last_refusals
label-alone p l device logical physical e f = rw (e, f) refl

module _ (p : Params) (device logical physical : ℕ) where
  -- one that is too long is refused
  not-long : number p device logical physical ≡ 0 → ltb 12 p.label.length ≡ false
  unfolding chosen_of with_sizes last_refusals
  not-long z =
      let s = sizes_of p logical physical in
      let a = asked_groups p device s in
      let g = trim a (min_group s.block) in
      let c = all-clear p device (with_groups p s a g) z in
      (last-clear p device s a g c).1.0

  chosen-field : (chosen p device logical physical).label ≡ label_of p.label.length p.label.bytes
  unfolding geometry_of
  chosen-field = refl

module _ (r : Request) (a : AcceptedRun r) where
  run_short : ltb 12 r.params.label.length ≡ false
  unfolding step_of
  run_short = not-long r.params r.device r.logical r.physical (is-accepted r.params r.device r.logical r.physical (step-number r a))

  -- the field of an accepted run is its label, filled up with zeros
  run-field : (run_of r).geometry.label ≡ label_of r.params.label.length r.params.label.bytes
  unfolding step_of
  run-field =
      ap (λ (g : Geometry). g.label) (run-geometry r a ∙ its-geometry r.params r.device r.logical r.physical (step-number r a))
      ∙ chosen-field r.params r.device r.logical r.physical

  -- UNDER THE PROFILE IT LEAVES A DISK WITHIN IT
  run-within : r.profile ≡ true → in_profile (run_of r).geometry (label_on (run_of r).geometry) ≡ true
  run-within t =
      let n = ap (λ (b : Bool). profile_number b (run_of r).geometry r.params.label) (sym t) ∙ run-profile r a in
      disk-within (run_of r).geometry r.params.label a.typed.options.label-size run-field (number-allowed (run_of r).geometry r.params.label n)

pub source-within : (g : Geometry) (u : List ℕ) → ProfileSource g u → in_profile g (label_on g) ≡ true
source-within g u s =
    subst (λ (x : Geometry). in_profile x (label_on x) ≡ true) s.run.geometry (run-within s.run.request s.run.accepted s.profile)

-- ---- the same run with the label of the disk

module _ (g : Geometry) (u : List ℕ) (s : Source g u) where
  abbrev r : Request
  r = s.request

  abbrev a : AcceptedRun s.request
  a = s.accepted

  abbrev again : Request
  again =
      record { number = r.number; params = with_label r.params (label_on g); device = r.device; logical = r.logical; physical = r.physical; profile = true }

  field : g.label ≡ label_of r.params.label.length r.params.label.bytes
  field = ap (λ (x : Geometry). x.label) (sym s.geometry) ∙ run-field r a

  step-again : step_of again ≡ step_of r
  unfolding step_of label_on
  step-again =
      label-alone r.params (label_on g) r.device r.logical r.physical
      (le-ltb 12 (length (trimmed g.label)) (label-short g.label (source-label g u s)) ∙ sym (run_short r a))
      (field-again g.label (source-label g u s) ∙ field)

  its-step : (step_of r).geometry ≡ g
  its-step = sym (run-geometry r a) ∙ s.geometry

  options-again : TypedOptions (with_label r.params (label_on g))
  unfolding label_on
  options-again =
      let t = a.typed.options in
      let h = label-short g.label (source-label g u s) in
      record {
        size = t.size;
        block_size = t.block_size;
        sector-size = t.sector-size;
        inode-size = t.inode-size;
        agcount = t.agcount;
        agsize = t.agsize;
        imaxpct = t.imaxpct;
        label-length = omega (arith, h);
        label-size = source-label g u s;
        label-bytes = below_at 256 g.label (lit< tt) (source-label-bytes g u s);
      }

  typed-again : TypedRequest again
  unfolding uuid_of time_of seed_of
  typed-again =
      let t = a.typed in
      record {
        options = options-again;
        device = t.device;
        logical = t.logical;
        physical = t.physical;
        uuid-size = t.uuid-size;
        uuid-bytes = t.uuid-bytes;
        seconds = t.seconds;
        nanoseconds = t.nanoseconds;
        seed = t.seed;
      }

  module _ (e : in_profile g (label_on g) ≡ true) where
    number-again : run_number again ≡ 0
    unfolding time_of
    number-again =
        let q : (step_of again).geometry ≡ g = ap (λ (c : Computed). c.geometry) step-again ∙ its-step in
        number-zero again (request-number r a) (ap (λ (c : Computed). c.number) step-again ∙ step-number r a)
        (ap plans_number (q ∙ sym s.geometry) ∙ run-plans r a)
        (ap (λ (x : Geometry). time_refusal x (time_of r.params)) (q ∙ sym s.geometry) ∙ ap (time_refusal (run_of r).geometry) (sym (run-time r a)) ∙ run-timely r a)
        (allowed-number true (step_of again).geometry (label_on g) (subst (λ (x : Geometry). in_profile x (label_on g) ≡ true) (sym q) e))

    accepted-again : AcceptedRun again
    accepted-again = record { typed = typed-again; number = number-again }

    uuid-again : uuid_of again.params ≡ uuid_of r.params
    unfolding uuid_of
    uuid-again = refl

    -- IT IS AN ACCEPTED RUN UNDER THE PROFILE
    pub within-source : ProfileSource g u
    within-source =
        record {
          run =
              record {
                request = again;
                accepted = accepted-again;
                geometry = run-geometry again accepted-again ∙ ap (λ (c : Computed). c.geometry) step-again ∙ its-step;
                uuid = run-uuid again accepted-again ∙ uuid-again ∙ sym (run-uuid r a) ∙ s.uuid;
              };
          profile = refl;
        }

-- ---- the rules don't read the sizing

plain-within : (g : Geometry) → in_profile (plain g) (label_on (plain g)) ≡ in_profile g (label_on g)
unfolding in_profile label_on
plain-within g = refl

pub reported-within : (g : Geometry) → in_profile (reported g) (label_on (reported g)) ≡ in_profile g (label_on g)
unfolding reported
reported-within g =
    choose-elim (λ (x : Geometry). in_profile x (label_on x) ≡ in_profile g (label_on g)) (is_answer (plain g)) (plain g) g (λ t. plain-within g) (λ t. refl)
