-- `plan_table::after_line` meets its contract.
-- Assumes nothing.
use Rattle.std.proofs.Common.{refl}
use Rattle.plan_table.proofs.after_line.Goals as goal

pub returns : goal.returns
returns c = rw (c.saturating_sub.ensures, c.sums_after-sums.ensures) refl
