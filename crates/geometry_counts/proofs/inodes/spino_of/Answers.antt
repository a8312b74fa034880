-- `geometry_counts::inodes::spino_of` meets its contract.
-- Assumes nothing.
use Rattle.std.proofs.Common.{rules}
use Rattle.arith.specs.Choice.{when}
use Rattle.geometry_layout.specs.Places.{sparse_align}
use Rattle.geometry_counts.proofs.inodes.spino_of.Goals as goal

pub returns-then-not-sparse : goal.returns-then-not-sparse
unfolding sparse_align when
returns-then-not-sparse c = search rules

pub returns : goal.returns
unfolding sparse_align when
returns c = search rules
