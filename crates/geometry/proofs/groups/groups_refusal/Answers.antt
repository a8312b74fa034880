-- `geometry::groups::groups_refusal` meets its contract: each call gives what its definition says; c16 is the place after refusal 16's call.
-- Assumes nothing.
use Rattle.geometry.specs.Groups.{groups_refusals}
use Rattle.geometry.proofs.groups.groups_refusal.Goals as goal

pub returns : goal.returns
unfolding groups_refusals
returns c = rw (
  c.first.ensures,
  c.min_group.ensures,
  c.first-n-3.ensures,
  c.ag_max_blocks.ensures,
  c.first-n-2.ensures,
  c.first-n.ensures,
)
