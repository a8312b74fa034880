-- `geometry::log_size::default_imaxpct` meets its contract.
-- Assumes nothing.
use Rattle.std.proofs.Common.{rules}
use Rattle.arith.specs.Choice.{when}
use Rattle.geometry.specs.Log.{default_imaxpct}
use Rattle.geometry.proofs.log_size.default_imaxpct.Goals as goal

pub returns-then-d-quotient : goal.returns-then-d-quotient
unfolding default_imaxpct when
returns-then-d-quotient c = search rules

pub returns-then-d-quotient-2 : goal.returns-then-d-quotient-2
unfolding default_imaxpct when
returns-then-d-quotient-2 c = search rules

pub returns-else-d-quotient-2 : goal.returns-else-d-quotient-2
unfolding default_imaxpct when
returns-else-d-quotient-2 c = search rules
