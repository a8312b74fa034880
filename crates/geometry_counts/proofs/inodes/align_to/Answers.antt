-- `geometry_counts::inodes::align_to` meets its contract.
-- Assumes nothing.
use Rattle.std.proofs.Common.{rules}
use Rattle.arith.specs.Choice.{when}
use Rattle.geometry_layout.specs.Places.{aligned}
use Rattle.geometry_counts.proofs.inodes.align_to.Goals as goal

pub returns-then-m-gt1 : goal.returns-then-m-gt1
unfolding aligned when
returns-then-m-gt1 c = search rules

pub returns-else-m-gt1 : goal.returns-else-m-gt1
unfolding aligned when
returns-else-m-gt1 c = search rules
