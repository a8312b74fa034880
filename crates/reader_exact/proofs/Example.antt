-- A disk of 1 GiB without options is accepted and read back, so that no statement of this crate is about nothing; and for each number bytes that get it.
-- Assumes nothing.
use Rattle.std.specs.Prelude.{None}
use mathlib.Core.Path.{◌≡◌, refl}
use mathlib.Core.Bool.{true, false}
use mathlib.Core.List.{List, [], ◌∷◌}
use Prim.Native.Nat.{ℕ, ◌*◌, ◌<◌}
use native.Mathlib.Nat.{le_refl}
use native.Mathlib.Omega.{arith}
use lib.Dec.{lit<}
use lib.ListN.{length, replicate}
use Rattle.refusals.specs.Numbers.{free_list_short, no_answer, no_place, not_left, wrong_length}
use Rattle.arith.specs.Choice.{when, bit}
use Rattle.arith.specs.Numbers.{ceil_div}
use Rattle.arith.specs.Powers.{power_in, power_log, least_from, log2_up}
use Rattle.params.specs.Params.{all_features, no_options, with_agcount, with_label}
use Rattle.geometry.specs.Sizes.{default_sector, sizes_of, sizes_refusals}
use Rattle.geometry.specs.declared.Geometry.{Geometry}
use Rattle.geometry.specs.Groups.{asked_blocks, default_size, initial_groups, is_short, trim, options_refusals, groups_refusals}
use Rattle.geometry.specs.Log.{header_of, prealloc_of, log_limit, log_blocks, default_imaxpct, last_refusals}
use Rattle.geometry.specs.Compute.{with_groups, with_sizes, chosen_of, refusals, refusal_of, label_of, geometry_of, zero_geometry, compute_def, step_answer}
use Rattle.geometry_answers.specs.Same.{same_features, numbers_of, same_from, same_geometry}
use Rattle.geometry_answers.specs.Named.{named_options, named_on, named_fits, named_answer, names_of, is_answer}
use Rattle.geometry_layout.specs.Places.{ibt_block, rmap_block, refc_block, freelist_of, chunk_of, cluster_of, align_of, round_up, aligned, root_chunk_of, group_blocks, fsb_of, ino_of}
use Rattle.geometry_places.specs.Answers.{group_refusal}
use Rattle.plan_site.specs.Sites.{site_of}
use Rattle.seqs.specs.Lists.{first_index, pushed, appended, fold, turns, up_from}
use Rattle.seqs.specs.Runs.{valid, weigh, run_length}
use Rattle.btree.specs.Owners.{negative}
use Rattle.plan_free.specs.Free.{without_run, taken_at, taken_from, taken, fitter, bigger, picked_from, pick_answer}
use Rattle.plan_rmap.specs.Rmap.{joins_left, joins_right, inserted_at, takes, inserted}
use Rattle.plan.specs.Plan.{free_at_first, rmap_at_first, at_first, failed, noted, moved, list_turn, list_filled, chunked, plan_answer, plan_of, planned}
use Rattle.plan_totals.specs.Totals.{first_to, plans_number}
use Rattle.inode_time.specs.Time.{time_inside, not_early, shifted}
use Rattle.request.specs.declared.Request.{Request}
use Rattle.request.specs.Parse.{request, under}
use Rattle.request.specs.Defaults.{time_of}
use Rattle.profile.specs.Rules.{allowed_sector, all_on, allowed_groups, label_byte, label_bytes, allowed_label, in_profile, trimmed, label_on}
use Rattle.head_bytes.proofs.Below.{below-zeros}
use Rattle.run.specs.Runs.{step_of, time_refusal, bare_number, run_number, run_of}
use Rattle.list_accepted.specs.Accepted.{AcceptedRun}
use Rattle.list_accepted.proofs.Typed.{labelled-typed, plain-typed}
use Rattle.list_accepted.proofs.Runs.{run-answer, run-geometry, source_of}
use Rattle.head_bytes.specs.Head.{head_length}
use Rattle.list_spec.specs.Listing.{head_written}
use Rattle.reader_exact.specs.Read.{read_group0, read_group}
use Rattle.reader_exact.proofs.Heads.{head-least, source-bounds, some-group}
use Rattle.reader_exact.proofs.Recovery.{Recovered, recovered}
use Rattle.reader_exact.proofs.Refused.{short-refused, unfinished-refused, past-refused, length-refused, stranger-refused, unplanned-refused}

-- planlist's example: a device of 1 GiB with sectors of 512 bytes
pub disk : Request
disk = request 0 no_options 1_073_741_824 512 512

-- the same disk under the profile, with the label AB
pub named : Request
named = under true (request 0 (with_label no_options (record { length = 2; bytes = 65 ∷ 66 ∷ replicate 10 0 })) 1_073_741_824 512 512)

-- K4: 5 groups of 16,396 blocks, which planning refuses
pub tight : Geometry
tight = (compute_def (with_agcount no_options 5) (5 * 16_396 * 4096) 512 512).geometry

-- what the definitions give by computation
record Computed : Type 0 where
  pub disk-number : run_number disk ≡ 0
  pub disk-judged : in_profile (step_of disk).geometry (label_on (step_of disk).geometry) ≡ false
  pub named-number : run_number named ≡ 0
  pub named-field : (step_of named).geometry.label ≡ 65 ∷ 66 ∷ replicate 10 0
  pub tight-answer : is_answer tight ≡ true
  pub tight-plans : plans_number tight ≡ free_list_short
  pub zero-answer : is_answer zero_geometry ≡ false

computed : Computed
unfolding disk named tight allowed_sector all_on allowed_groups label_byte label_bytes allowed_label in_profile trimmed label_on when bit ceil_div power_in power_log least_from log2_up default_sector sizes_of sizes_refusals asked_blocks default_size initial_groups is_short trim options_refusals groups_refusals header_of prealloc_of log_limit log_blocks default_imaxpct last_refusals with_groups with_sizes chosen_of refusals refusal_of label_of geometry_of zero_geometry step_answer compute_def same_features numbers_of same_from same_geometry named_options named_on named_fits named_answer names_of is_answer ibt_block rmap_block refc_block freelist_of chunk_of cluster_of align_of round_up aligned root_chunk_of group_blocks fsb_of ino_of group_refusal site_of first_index pushed appended fold turns up_from valid weigh run_length negative without_run taken_at taken_from taken fitter bigger picked_from pick_answer joins_left joins_right inserted_at takes inserted free_at_first rmap_at_first at_first failed noted moved list_turn list_filled chunked plan_answer plan_of planned first_to plans_number time_inside not_early shifted time_of step_of time_refusal bare_number run_number
computed = record { disk-number = refl; disk-judged = refl; named-number = refl; named-field = refl; tight-answer = refl; tight-plans = refl; zero-answer = refl }

pub disk-accepted : AcceptedRun disk
unfolding disk
disk-accepted = record { typed = plain-typed all_features None false 1_073_741_824 (lit< tt) (lit< tt); number = computed.disk-number }

-- it has no label, and so is outside the profile
pub disk-outside : in_profile (run_of disk).geometry (label_on (run_of disk).geometry) ≡ false
disk-outside = rw (run-geometry disk disk-accepted) computed.disk-judged

-- the other is accepted under it, and its field is filled up with zeros
pub named-accepted : AcceptedRun named
unfolding named
named-accepted =
    record {
      typed =
          labelled-typed all_features None (record { length = 2; bytes = 65 ∷ 66 ∷ replicate 10 0 }) false true 1_073_741_824 (lit< tt) refl (lit< tt, (lit< tt, below-zeros 10)) (lit< tt) (lit< tt);
      number = computed.named-number;
    }

pub named-label : (run_of named).geometry.label ≡ 65 ∷ 66 ∷ replicate 10 0
named-label = rw (run-geometry named named-accepted) computed.named-field

pub named-under : named.profile ≡ true
unfolding named
named-under = refl

-- IT IS READ BACK
pub disk-read : Recovered (run_of disk).geometry (run_of disk).uuid
disk-read = recovered disk disk-accepted

-- ---- refused

abbrev g : Geometry
g = (run_of disk).geometry

abbrev u : List ℕ
u = (run_of disk).uuid

-- ONE REFUSED FOR EACH NUMBER
pub record Refusals : Type 0 where
  -- no bytes
  pub short : (read_group0 []).number ≡ wrong_length
  -- the disk before it was finished
  pub unfinished : (read_group0 (head_written g u 0)).number ≡ not_left
  -- a group behind the last
  pub past : (read_group g u g.agcount []).number ≡ no_place
  -- group 0's with no byte
  pub cut : (read_group g u 0 []).number ≡ wrong_length
  -- the geometry of zeros
  pub stranger : (read_group zero_geometry u 0 []).number ≡ no_answer
  -- any head, where only planning refuses
  pub unplanned : (k : ℕ) (xs : List ℕ) → k < tight.agcount → length xs ≡ head_length tight → (read_group tight u k xs).number ≡ not_left

pub refusals-given : Refusals
refusals-given =
    let s = source_of disk disk-accepted in
    let a = run-answer disk disk-accepted in
    record {
      short = short-refused [] (lit< tt);
      unfinished = unfinished-refused g u s;
      past = past-refused g u [] g.agcount a (le_refl g.agcount);
      cut = length-refused g u [] 0 a (some-group g u s) (λ e. let l = head-least g (source-bounds g u s) in omega (arith, e, l));
      stranger = stranger-refused zero_geometry u [] 0 computed.zero-answer;
      unplanned = λ k xs h l. unplanned-refused tight u xs k computed.tight-answer h l (λ z. omega (arith, z, computed.tight-plans));
    }
