-- The bound of 2^30 is near: a group with 2^30 − 10 free blocks, computed.
-- Assumes nothing.
use mathlib.Core.Path.{◌≡◌, refl, ◌∙◌}
use mathlib.Core.Bool.{true, false, cond}
use Prim.Native.Nat.{◌+◌, ◌-◌, ◌^◌}
use native.Mathlib.Omega.{arith}
use lib.ListN.{length}
use Rattle.arith.specs.Choice.{when, bit}
use Rattle.arith.specs.Numbers.{ceil_div}
use Rattle.arith.specs.Powers.{power_in, power_log, least_from, log2_up}
use Rattle.geometry.specs.Sizes.{default_sector, sizes_of, sizes_refusals}
use Rattle.geometry.specs.Groups.{asked_blocks, default_size, initial_groups, is_short, trim, options_refusals, groups_refusals}
use Rattle.geometry.specs.Log.{header_of, prealloc_of, log_limit, log_blocks, default_imaxpct, last_refusals}
use Rattle.geometry.specs.Compute.{with_groups, with_sizes, chosen_of, refusals, refusal_of, label_of, geometry_of, compute_def, step_answer}
use Rattle.geometry_answers.specs.Same.{same_features, numbers_of, same_from, same_geometry}
use Rattle.geometry_answers.specs.Named.{named_options, named_on, named_fits, named_answer, names_of, is_answer}
use Rattle.geometry_layout.specs.Places.{freelist_of, chunk_of, cluster_of, align_of, round_up, aligned, root_chunk_of, group_blocks}
use Rattle.plan_site.specs.declared.Site.{Site}
use Rattle.plan_site.specs.Sites.{site_of}
use Rattle.plan_closed.specs.Closed.{has_root_chunk, list_at, list_short}
use Rattle.plan_closed.proofs.Planning.{planned-plan}
use Rattle.plan_totals.specs.Totals.{larger_count, const_number, before_chunk, after_chunk, after_list}
use Rattle.plan_totals.proofs.Rows.{free-is, longest-is}
use Rattle.plan_totals.proofs.Whole.{plans-number}
use Rattle.plan_summary.specs.Summaries.{summary_of, length_in, log_blocks_in, chunk_blocks_in, free_blocks_in, longest_in}
use Rattle.plan_summary.specs.Narrow.{largest_groups, Near}

abbrev last : Site
last = site_of largest_groups 2

-- what is computed of it
record Computed : Type 0 where
  label : length largest_groups.label ≡ 12
  groups : largest_groups.agcount ≡ 3
  answer : is_answer largest_groups ≡ true
  number : const_number largest_groups ≡ 0
  full : list_short last ≡ false
  free : cond (has_root_chunk last) (before_chunk last + after_chunk last) (after_list last) ≡ 2 ^ 30 - 10
  longest : cond (has_root_chunk last) (larger_count (before_chunk last) (after_chunk last)) (after_list last) ≡ 2 ^ 30 - 10
  row-free : free_blocks_in (summary_of largest_groups) 2 ≡ 2 ^ 30 - 10
  row-longest : longest_in (summary_of largest_groups) 2 ≡ 2 ^ 30 - 10

computed : Computed
unfolding largest_groups when bit ceil_div power_in power_log least_from log2_up default_sector sizes_of sizes_refusals asked_blocks default_size initial_groups is_short trim options_refusals groups_refusals header_of prealloc_of log_limit log_blocks default_imaxpct last_refusals with_groups with_sizes chosen_of refusals refusal_of label_of geometry_of compute_def step_answer same_features numbers_of same_from same_geometry named_options named_on named_fits named_answer names_of is_answer freelist_of chunk_of cluster_of align_of round_up aligned root_chunk_of group_blocks site_of list_at list_short const_number summary_of length_in log_blocks_in chunk_blocks_in free_blocks_in longest_in
computed = record { label = refl; groups = refl; answer = refl; number = refl; full = refl; free = refl; longest = refl; row-free = refl; row-longest = refl }

-- THE BOUND IS NEAR
pub near : Near
near =
    let c = computed in
    let p = planned-plan largest_groups c.label c.answer 2 (omega (arith, c.groups)) c.full in
    record {
      answer = c.answer;
      plans = plans-number largest_groups c.label ∙ c.number;
      free = rw p (free-is last ∙ c.free);
      longest = rw p (longest-is last ∙ c.longest);
      row-free = c.row-free;
      row-longest = c.row-longest;
    }
