-- `geometry::log_size::freelist_of` meets its contract.
-- Assumes nothing.
use Rattle.std.proofs.Common.{rules}
use Rattle.arith.specs.Choice.{when}
use Rattle.geometry.specs.Log.{freelist_of}
use Rattle.geometry.proofs.log_size.freelist_of.Goals as goal

pub returns-then-f : goal.returns-then-f
unfolding freelist_of when
returns-then-f c = search rules

pub returns-else-f : goal.returns-else-f
unfolding freelist_of when
returns-else-f c = search rules
