-- 31 IS EXACT: a geometry is an answer exactly where a request of its types asks for it. And every answer whose plans are accepted is the
-- geometry of an accepted run, with any UUID.
-- Assumes nothing.
use Rattle.std.specs.Prelude.{Some, None}
use mathlib.Core.Path.{◌≡◌, refl, ap, ◌∙◌}
use mathlib.Core.Bool.{Bool, true, false}
use mathlib.Core.List.{List}
use mathlib.Core.Logic.{◌↔◌}
use Prim.Native.Nat.{ℕ}
use borrow.Author.Tests.{eq-eqb}
use lib.Dec.{lit<}
use lib.IntN.{pos}
use lib.ListN.{replicate}
use Rattle.params.specs.declared.Params.{Params}
use Rattle.params.specs.Params.{options}
use Rattle.geometry.specs.Sizes.{sizes_of}
use Rattle.geometry.specs.declared.Geometry.{Geometry}
use Rattle.geometry.specs.declared.Computed.{Computed}
use Rattle.geometry.specs.Compute.{with_groups, with_sizes, chosen_of, refusals, refusal_of, geometry_of, compute_def}
use Rattle.geometry_answers.specs.Named.{is_answer}
use Rattle.geometry_answers.specs.Answers.{TypedOptions, TypedGeometry, TypedAnswer}
use Rattle.geometry_answers.proofs.Exact.{exact, complete}
use Rattle.inode_time.specs.Time.{time_inside, not_early, shifted, time_number}
use Rattle.request.specs.declared.Request.{Request}
use Rattle.request.specs.Defaults.{uuid_of, time_of, seed_of}
use Rattle.plan_totals.specs.Totals.{plans_number}
use Rattle.profile.proofs.Labels.{not-under}
use Rattle.run.specs.Runs.{step_of, time_refusal, run_number, run_of}
use Rattle.list_accepted.specs.Accepted.{TypedRequest, Source}
use Rattle.list_accepted.proofs.Bytes.{below_at}
use Rattle.head_bytes.proofs.Below.{below-zeros}
use Rattle.reader_exact.specs.Asked.{AskedFor}
use Rattle.list_accepted.proofs.Runs.{number-zero}
use Rattle.reader_exact.specs.Left.{Handed}

-- the options with this UUID, and with neither time nor seed
abbrev with_uuid_alone : Params → List ℕ → Params
with_uuid_alone p u =
    options p.size p.block_size p.sector_size p.inode_size p.agcount p.agsize p.imaxpct p.label (Some u) None None p.features p.roomy

-- a run's geometry depends on neither
pub step_same : (p : Params) (u : List ℕ) (device logical physical : ℕ) → compute_def (with_uuid_alone p u) device logical physical ≡ compute_def p device logical physical
unfolding compute_def refusal_of refusals chosen_of with_sizes with_groups sizes_of geometry_of
step_same p u device logical physical = refl

-- the time 0 is stored with and without bigtime
zero-time : (big : Bool) → time_number big (pos 0) 0 ≡ 0
unfolding time_inside not_early shifted
zero-time true = refl
zero-time false = refl

options-typed : (p : Params) (u : List ℕ) → TypedOptions p → TypedOptions (with_uuid_alone p u)
options-typed p u t =
    record {
      size = t.size;
      block_size = t.block_size;
      sector-size = t.sector-size;
      inode-size = t.inode-size;
      agcount = t.agcount;
      agsize = t.agsize;
      imaxpct = t.imaxpct;
      label-length = t.label-length;
      label-size = t.label-size;
      label-bytes = t.label-bytes;
    }

module _ (g : Geometry) (u : List ℕ) (h : Handed g u) (a : is_answer g ≡ true) where
  -- the request that the geometry names
  named : TypedAnswer g
  named = (exact g h.geometry).0 a

  abbrev asked : Request
  asked =
      record {
        number = 0;
        params = with_uuid_alone named.answered.options u;
        device = named.answered.device;
        logical = named.answered.logical;
        physical = named.answered.physical;
        profile = false;
      }

  step_is : step_of asked ≡ record { number = 0; geometry = g }
  unfolding step_of
  step_is = step_same named.answered.options u named.answered.device named.answered.logical named.answered.physical ∙ named.answered.accepted

  asked-typed : TypedRequest asked
  unfolding uuid_of time_of seed_of
  asked-typed =
      record {
        options = options-typed named.answered.options u named.options;
        device = named.answered.small;
        logical = named.logical;
        physical = named.physical;
        uuid-size = h.uuid-size;
        uuid-bytes = h.uuid-bytes;
        seconds = lit< tt;
        nanoseconds = lit< tt;
        seed = lit< tt;
      }

  module _ (z : plans_number g ≡ 0) where
    asked-number : run_number asked ≡ 0
    unfolding step_of time_refusal time_of
    asked-number =
        let e = step_is in
        number-zero asked refl (ap (λ (c : Computed). c.number) e) (ap (λ (c : Computed). plans_number c.geometry) e ∙ z)
        (ap (λ (c : Computed). time_number c.geometry.features.bigtime (pos 0) 0) e ∙ zero-time g.features.bigtime) (not-under (step_of asked).geometry asked.params.label)

    asked-geometry : (run_of asked).geometry ≡ g
    unfolding run_of
    asked-geometry = rw (eq-eqb (run_number asked) 0 asked-number) (ap (λ (c : Computed). c.geometry) step_is)

    asked-uuid : (run_of asked).uuid ≡ u
    unfolding run_of uuid_of
    asked-uuid = rw (eq-eqb (run_number asked) 0 asked-number)

    pub source : Source g u
    source = record { request = asked; accepted = record { typed = asked-typed; number = asked-number }; geometry = asked-geometry; uuid = asked-uuid }

-- ---- 31

zero-uuid : (g : Geometry) → TypedGeometry g → Handed g (replicate 16 0)
zero-uuid g t = record { geometry = t; uuid-size = refl; uuid-bytes = below_at 256 (replicate 16 0) (lit< tt) (below-zeros 16) }

to-asked : (g : Geometry) → TypedGeometry g → is_answer g ≡ true → AskedFor g
to-asked g t a =
    let h = zero-uuid g t in
    let u : List ℕ = replicate 16 0 in
    record { request = asked g u h a; typed = asked-typed g u h a; answer = step_is g u h a }

from-asked : (g : Geometry) → AskedFor g → is_answer g ≡ true
unfolding step_of
from-asked g w =
    let r = w.request in
    complete g
    (record {
      options = r.params;
      label = w.typed.options.label-size;
      device = r.device;
      small = w.typed.device;
      logical = r.logical;
      physical = r.physical;
      accepted = w.answer;
    })

-- A GEOMETRY THAT IS HANDED IN PASSES EXACTLY WHERE IT IS ASKED FOR
pub exact-asked : (g : Geometry) → TypedGeometry g → (is_answer g ≡ true) ↔ AskedFor g
exact-asked g t = (to-asked g t, from-asked g)
