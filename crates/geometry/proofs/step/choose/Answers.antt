-- `geometry::step::choose` meets its contract.
-- Assumes nothing.
use Rattle.geometry.specs.Compute.{chosen_of, with_sizes, with_groups}
use Rattle.geometry.proofs.step.choose.Goals as goal

pub returns : goal.returns
unfolding chosen_of with_sizes with_groups
returns c = rw (
  c.log_blocks.ensures,
  c.imaxpct_of.ensures,
  c.log_limit-limit.ensures,
  c.prealloc_of-prealloc.ensures,
  c.trimmed-groups.ensures,
  c.min_group.ensures,
  c.initial_groups-asked.ensures,
  c.asked_blocks-blocks.ensures,
  c.chosen_sizes-sizes.ensures,
)
