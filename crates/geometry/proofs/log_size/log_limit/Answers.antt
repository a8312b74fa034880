-- `geometry::log_size::log_limit` meets its contract.
-- Assumes nothing.
use Rattle.std.proofs.Common.{rules}
use Rattle.arith.specs.Choice.{when}
use Rattle.geometry.specs.Log.{log_limit}
use Rattle.geometry.proofs.log_size.log_limit.Goals as goal

pub returns-then-not-roomy : goal.returns-then-not-roomy
unfolding log_limit when
returns-then-not-roomy c = search rules

pub returns : goal.returns
unfolding log_limit when
returns c = search rules
