-- The definitions give the station cases' answers, and planlist's example.
-- Assumes nothing.
use mathlib.Core.Bool.{◌&&◌}
use lib.Dec.{T}
use Rattle.arith.specs.Choice.{when, bit}
use Rattle.arith.specs.Numbers.{ceil_div}
use Rattle.arith.specs.Powers.{power_in, power_log, least_from, log2_up}
use Rattle.geometry.specs.Sizes.{default_sector, sizes_of, sizes_refusals}
use Rattle.geometry.specs.Groups.{group_blocks, asked_blocks, default_size, initial_groups, is_short, trim, options_refusals, groups_refusals}
use Rattle.geometry.specs.Log.{header_of, prealloc_of, freelist_of, log_limit, log_blocks, default_imaxpct, last_refusals}
use Rattle.geometry.specs.Compute.{with_groups, with_sizes, chosen_of, refusals, refusal_of, label_of, geometry_of, zero_geometry, compute_def, step_answer}
use Rattle.geometry_answers.specs.Same.{same_features, numbers_of, same_from, same_geometry}
use Rattle.geometry_answers.specs.Named.{named_options, named_on, named_fits, named_answer, names_of, is_answer}
use Rattle.geometry_layout.specs.Places.{ibt_block, rmap_block, refc_block, chunk_of, cluster_of, align_of, round_up, aligned, root_chunk_of, fsb_of, ino_of}
use Rattle.geometry_places.specs.Answers.{group_refusal, root_chunk, root_ino}
use Rattle.plan_site.specs.Sites.{site_of}
use Rattle.seqs.specs.Lists.{first_index, pushed, appended, fold, turns, up_from}
use Rattle.seqs.specs.Runs.{valid, weigh, run_length}
use Rattle.btree.specs.Owners.{negative}
use Rattle.plan_free.specs.Free.{without_run, taken_at, taken_from, taken, fitter, bigger, picked_from, pick_answer}
use Rattle.plan_rmap.specs.Rmap.{joins_left, joins_right, inserted_at, takes, inserted}
use Rattle.plan.specs.Plan.{free_at_first, rmap_at_first, at_first, failed, noted, moved, list_turn, list_filled, chunked, plan_answer, plan_of, planned}
use Rattle.plan_totals.specs.Totals.{freeblks_of, longest_of, sum_to, first_to, plans_number, free_count, row_of, total_of}
use Rattle.sb_states.specs.States.{finished_state}
use Rattle.stations.specs.Stations.{root_inode_number, shown_geometry, shown_step, accepted_plans, plans_by, plans_of, same, passes, all_stations, stations, station_rows, example_rows, example}

pub hold : T (all_stations stations && same example_rows example)
unfolding when bit ceil_div power_in power_log least_from log2_up default_sector sizes_of sizes_refusals asked_blocks default_size initial_groups is_short trim options_refusals groups_refusals header_of prealloc_of log_limit log_blocks default_imaxpct last_refusals with_groups with_sizes chosen_of refusals refusal_of label_of geometry_of zero_geometry step_answer compute_def same_features numbers_of same_from same_geometry named_options named_on named_fits named_answer names_of is_answer ibt_block rmap_block refc_block freelist_of chunk_of cluster_of align_of round_up aligned root_chunk_of group_blocks fsb_of ino_of group_refusal root_chunk root_ino site_of first_index pushed appended fold turns up_from valid weigh run_length negative without_run taken_at taken_from taken fitter bigger picked_from pick_answer joins_left joins_right inserted_at takes inserted free_at_first rmap_at_first at_first failed noted moved list_turn list_filled chunked plan_answer plan_of planned freeblks_of longest_of sum_to first_to plans_number free_count row_of total_of finished_state root_inode_number shown_geometry shown_step accepted_plans plans_by plans_of same passes all_stations stations station_rows example_rows example
hold = tt
