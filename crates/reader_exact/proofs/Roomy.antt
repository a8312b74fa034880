-- ROOMY DISKS: one whose log plain sizing gives too is reported with that sizing; one that plain sizing refuses in planning is read back as it is;
-- and one that both sizings accept with different logs is read back with its own, and is refused with the other's geometry.
-- Assumes nothing.
use Rattle.std.specs.Prelude.{Some}
use mathlib.Core.Path.{◌≡◌, refl, ap, sym, ◌∙◌}
use mathlib.Core.Bool.{Bool, true, false, not}
use mathlib.Core.List.{List}
use Prim.Native.Nat.{ℕ, suc, ◌*◌, ◌^◌, ◌<◌}
use native.Mathlib.Omega.{arith}
use borrow.Author.Tests.{eq-eqb}
use lib.Dec.{lit<}
use lib.ListN.{length}
use Rattle.refusals.specs.Numbers.{free_list_short, not_left}
use Rattle.endian.specs.Bytes.{be_at}
use Rattle.params.specs.declared.Features.{Features}
use Rattle.params.specs.Params.{all_features, no_options, with_agsize, with_features, with_roomy}
use Rattle.request.specs.declared.Request.{Request}
use Rattle.arith.specs.Choice.{when, bit}
use Rattle.arith.specs.Numbers.{ceil_div}
use Rattle.arith.specs.Powers.{power_in, power_log, least_from, log2_up}
use Rattle.geometry.specs.Sizes.{default_sector, sizes_of, sizes_refusals}
use Rattle.geometry.specs.declared.Geometry.{Geometry}
use Rattle.geometry.specs.Groups.{asked_blocks, default_size, initial_groups, is_short, trim, options_refusals, groups_refusals}
use Rattle.geometry.specs.Log.{header_of, prealloc_of, log_limit, log_blocks, default_imaxpct, last_refusals}
use Rattle.geometry.specs.Compute.{with_groups, with_sizes, chosen_of, refusals, refusal_of, label_of, geometry_of, zero_geometry, compute_def, step_answer}
use Rattle.geometry_answers.specs.Same.{same_features, numbers_of, same_from, same_geometry}
use Rattle.geometry_answers.specs.Named.{named_options, named_on, named_fits, named_answer, names_of, is_answer}
use Rattle.geometry_layout.specs.Places.{ibt_block, rmap_block, refc_block, freelist_of, chunk_of, cluster_of, align_of, round_up, aligned, root_chunk_of, group_blocks, fsb_of, ino_of}
use Rattle.geometry_places.specs.Answers.{group_refusal}
use Rattle.plan_site.specs.Sites.{site_of}
use Rattle.seqs.specs.Lists.{first_index, pushed, appended, fold, turns, up_from}
use Rattle.seqs.specs.Runs.{valid, weigh, run_length}
use Rattle.btree.specs.Owners.{negative}
use Rattle.plan_free.specs.Free.{without_run, taken_at, taken_from, taken, fitter, bigger, picked_from, pick_answer}
use Rattle.plan_rmap.specs.Rmap.{joins_left, joins_right, inserted_at, takes, inserted}
use Rattle.plan.specs.Plan.{free_at_first, rmap_at_first, at_first, failed, noted, moved, list_turn, list_filled, chunked, plan_answer, plan_of, planned}
use Rattle.plan_totals.specs.Totals.{first_to, plans_number}
use Rattle.inode_time.specs.Time.{time_inside, not_early, shifted}
use Rattle.request.specs.Parse.{request}
use Rattle.request.specs.Defaults.{time_of}
use Rattle.run.specs.Runs.{step_of, time_refusal, bare_number, run_number, run_of}
use Rattle.list_accepted.specs.Accepted.{TypedRequest, AcceptedRun}
use Rattle.list_accepted.proofs.Typed.{plain-typed}
use Rattle.list_accepted.proofs.Runs.{source-plans, source-answer, source-label, source-uuid, source_of}
use Rattle.head_bytes.specs.Head.{head_length}
use Rattle.list_spec.specs.Listing.{head_left}
use Rattle.reader_names.specs.Sizings.{plain}
use Rattle.reader_exact.specs.declared.Found.{Found}
use Rattle.reader_exact.specs.Read.{read_group0, read_group}
use Rattle.reader_exact.specs.Left.{reported}
use Rattle.reader_exact.proofs.Heads.{some-group, left-length, left-log}
use Rattle.reader_exact.proofs.Sizings.{reported-old}
use Rattle.reader_exact.proofs.First.{complete-first}
use Rattle.reader_exact.proofs.Refused.{unlike-refused}

-- groups of so many bytes on a device of so many
abbrev asked : Features → ℕ → ℕ → Bool → Request
asked f agsize device roomy = request 0 (with_roomy (with_features (with_agsize no_options agsize) f) roomy) device 512 512

abbrev without_rmapbt : Features
without_rmapbt = record { finobt = true; rmapbt = false; reflink = true; inobtcount = true; bigtime = true; nrext64 = true; sparse = true }

-- 1 GiB in four groups: both sizings give the same log
pub ample : Request
ample = asked all_features 268_435_456 1_073_741_824 true

-- two groups, of which the second has 5 blocks besides head and log under plain sizing, where the free list needs 6
pub crowded : Bool → Request
crowded roomy = asked all_features (39_980_457 * 4096) (40_000_000 * 4096) roomy

-- two groups without rmapbt, of which the second has under plain sizing exactly the 4 blocks of the free list besides head and log
pub corner : Bool → Request
corner roomy = asked without_rmapbt (39_980_459 * 4096) (40_000_000 * 4096) roomy

record Computed : Type 0 where
  pub ample-number : run_number ample ≡ 0
  pub ample-plain : is_answer (plain (step_of ample).geometry) ≡ true
  pub old-number : run_number (crowded false) ≡ free_list_short
  pub crowded-number : run_number (crowded true) ≡ 0
  pub crowded-plain : is_answer (plain (step_of (crowded true)).geometry) ≡ false
  pub corner-numbers : (run_number (corner false) ≡ 0) × (run_number (corner true) ≡ 0)
  pub corner-logs : ((step_of (corner false)).geometry.logblocks ≡ 19_531) × ((step_of (corner true)).geometry.logblocks ≡ 19_530)
  pub corner-names : names_of (step_of (corner true)).geometry ≡ names_of (step_of (corner false)).geometry
  pub corner-heads : head_length (step_of (corner true)).geometry ≡ head_length (step_of (corner false)).geometry
  pub corner-sizing : (step_of (corner false)).geometry.roomy ≡ false
  pub corner-plain : is_answer (plain (step_of (corner true)).geometry) ≡ false

computed : Computed
unfolding ample crowded corner when bit ceil_div power_in power_log least_from log2_up default_sector sizes_of sizes_refusals asked_blocks default_size initial_groups is_short trim options_refusals groups_refusals header_of prealloc_of log_limit log_blocks default_imaxpct last_refusals with_groups with_sizes chosen_of refusals refusal_of label_of geometry_of zero_geometry step_answer compute_def same_features numbers_of same_from same_geometry named_options named_on named_fits named_answer names_of is_answer ibt_block rmap_block refc_block freelist_of chunk_of cluster_of align_of round_up aligned root_chunk_of group_blocks fsb_of ino_of group_refusal site_of first_index pushed appended fold turns up_from valid weigh run_length negative without_run taken_at taken_from taken fitter bigger picked_from pick_answer joins_left joins_right inserted_at takes inserted free_at_first rmap_at_first at_first failed noted moved list_turn list_filled chunked plan_answer plan_of planned first_to plans_number time_inside not_early shifted time_of step_of time_refusal bare_number run_number head_length
computed =
    record {
      ample-number = refl;
      ample-plain = refl;
      old-number = refl;
      crowded-number = refl;
      crowded-plain = refl;
      corner-numbers = (refl, refl);
      corner-logs = (refl, refl);
      corner-names = refl;
      corner-heads = refl;
      corner-sizing = refl;
      corner-plain = refl;
    }

typed : (f : Features) (agsize device : ℕ) (roomy : Bool) → agsize < 2 ^ 64 → device < 2 ^ 64 → TypedRequest (asked f agsize device roomy)
typed f agsize device roomy a d = plain-typed f (Some agsize) roomy device a d

-- plain sizing refuses the second in planning
pub crowded-refused : run_number (crowded false) ≡ free_list_short
crowded-refused = computed.old-number

pub ample-accepted : AcceptedRun ample
unfolding ample
ample-accepted = record { typed = typed all_features 268_435_456 1_073_741_824 true (lit< tt) (lit< tt); number = computed.ample-number }

pub crowded-accepted : AcceptedRun (crowded true)
unfolding crowded
crowded-accepted = record { typed = typed all_features (39_980_457 * 4096) (40_000_000 * 4096) true (lit< tt) (lit< tt); number = computed.crowded-number }

run-geometry : (r : Request) → run_number r ≡ 0 → (run_of r).geometry ≡ (step_of r).geometry
unfolding run_of
run-geometry r z = rw (eq-eqb (run_number r) 0 z) refl

reported-other : (g : Geometry) → is_answer (plain g) ≡ true → reported g ≡ plain g
unfolding reported
reported-other g b = rw b refl

reported-own : (g : Geometry) → is_answer (plain g) ≡ false → reported g ≡ g
unfolding reported
reported-own g b = rw b refl

-- READ WITH PLAIN SIZING
pub ample-read : (read_group0 (head_left (run_of ample).geometry (run_of ample).uuid 0)).geometry ≡ plain (step_of ample).geometry
ample-read =
    ap (λ (f : Found). f.geometry) (complete-first (run_of ample).geometry (run_of ample).uuid (source_of ample ample-accepted))
    ∙ ap reported (run-geometry ample computed.ample-number)
    ∙ reported-other (step_of ample).geometry computed.ample-plain

-- READ AS ROOMY
pub crowded-read : (read_group0 (head_left (run_of (crowded true)).geometry (run_of (crowded true)).uuid 0)).geometry ≡ (step_of (crowded true)).geometry
crowded-read =
    ap (λ (f : Found). f.geometry) (complete-first (run_of (crowded true)).geometry (run_of (crowded true)).uuid (source_of (crowded true) crowded-accepted))
    ∙ ap reported (run-geometry (crowded true) computed.crowded-number)
    ∙ reported-own (step_of (crowded true)).geometry computed.crowded-plain

-- ---- the corner: two accepted runs with one name and two logs

corner-number : (roomy : Bool) → run_number (corner roomy) ≡ 0
corner-number true = computed.corner-numbers.1
corner-number false = computed.corner-numbers.0

pub corner-accepted : (roomy : Bool) → AcceptedRun (corner roomy)
unfolding corner
corner-accepted roomy = record { typed = typed without_rmapbt (39_980_459 * 4096) (40_000_000 * 4096) roomy (lit< tt) (lit< tt); number = corner-number roomy }

-- THE SAME NAME, A BLOCK OF LOG LESS
pub corner-apart : (names_of (step_of (corner true)).geometry ≡ names_of (step_of (corner false)).geometry) × ((step_of (corner false)).geometry.logblocks ≡ suc (step_of (corner true)).geometry.logblocks)
corner-apart = (computed.corner-names, computed.corner-logs.0 ∙ ap suc (sym computed.corner-logs.1))

-- the run's head of group 0, with its UUID of zeros
abbrev corner-head : Bool → List ℕ
corner-head roomy = head_left (run_of (corner roomy)).geometry (run_of (corner roomy)).uuid 0

corner-reported : (roomy : Bool) → reported (step_of (corner roomy)).geometry ≡ (step_of (corner roomy)).geometry
corner-reported true = reported-own (step_of (corner true)).geometry computed.corner-plain
corner-reported false = reported-old (step_of (corner false)).geometry computed.corner-sizing

-- EACH IS READ BACK AS IT IS
pub corner-read : (roomy : Bool) → (read_group0 (corner-head roomy)).geometry ≡ (step_of (corner roomy)).geometry
corner-read roomy =
    ap (λ (f : Found). f.geometry) (complete-first (run_of (corner roomy)).geometry (run_of (corner roomy)).uuid (source_of (corner roomy) (corner-accepted roomy)))
    ∙ ap reported (run-geometry (corner roomy) (corner-number roomy))
    ∙ corner-reported roomy

corner-log : (roomy : Bool) → be_at 4 96 (corner-head roomy) ≡ (step_of (corner roomy)).geometry.logblocks
corner-log roomy =
    let s = source_of (corner roomy) (corner-accepted roomy) in
    let g = (run_of (corner roomy)).geometry in
    let u = (run_of (corner roomy)).uuid in
    left-log g u (source-label g u s) (source-answer g u s) (source-uuid g u s)
    ∙ ap (λ (x : Geometry). x.logblocks) (run-geometry (corner roomy) (corner-number roomy))

-- the two heads differ
corner-unlike : (roomy : Bool) → corner-head roomy ≡ corner-head (not roomy) → ⊥
corner-unlike true e =
    let l = computed.corner-logs in
    let a = corner-log true in
    let b = corner-log false in
    let c = ap (be_at 4 96) e in
    omega arith
corner-unlike false e =
    let l = computed.corner-logs in
    let a = corner-log true in
    let b = corner-log false in
    let c = ap (be_at 4 96) e in
    omega arith

corner-lengths : (roomy : Bool) → head_length (run_of (corner roomy)).geometry ≡ head_length (run_of (corner (not roomy))).geometry
corner-lengths roomy =
    ap head_length (run-geometry (corner roomy) (corner-number roomy))
    ∙ one_of_two roomy
    ∙ sym (ap head_length (run-geometry (corner (not roomy)) (corner-number (not roomy))))
  where
    one_of_two : (roomy : Bool) → head_length (step_of (corner roomy)).geometry ≡ head_length (step_of (corner (not roomy))).geometry
    one_of_two true = computed.corner-heads
    one_of_two false = sym computed.corner-heads

corner-length : (roomy : Bool) → length (corner-head roomy) ≡ head_length (run_of (corner (not roomy))).geometry
corner-length roomy =
    let s = source_of (corner roomy) (corner-accepted roomy) in
    let g = (run_of (corner roomy)).geometry in
    left-length g (run_of (corner roomy)).uuid s 0 (some-group g (run_of (corner roomy)).uuid s) ∙ corner-lengths roomy

-- AND IS REFUSED WITH THE OTHER'S GEOMETRY
pub corner-other : (roomy : Bool) → (read_group (run_of (corner (not roomy))).geometry (run_of (corner (not roomy))).uuid 0 (corner-head roomy)).number ≡ not_left
corner-other roomy =
    let o = not roomy in
    let s = source_of (corner o) (corner-accepted o) in
    let g = (run_of (corner o)).geometry in
    let u = (run_of (corner o)).uuid in
    unlike-refused g u (corner-head roomy) 0 (source-answer g u s) (some-group g u s) (corner-length roomy) (source-plans g u s) (corner-unlike roomy)
