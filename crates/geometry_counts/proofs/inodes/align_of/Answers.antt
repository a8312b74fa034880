-- `geometry_counts::inodes::align_of` meets its contract.
-- Assumes nothing.
use Rattle.std.proofs.Common.{rules}
use Rattle.arith.specs.Choice.{when}
use Rattle.geometry_layout.specs.Places.{align_of}
use Rattle.geometry_counts.proofs.inodes.align_of.Goals as goal

pub returns-then-sparse : goal.returns-then-sparse
unfolding align_of when
returns-then-sparse c = search rules

pub returns-else-sparse : goal.returns-else-sparse
unfolding align_of when
returns-else-sparse c = search rules
