-- `plan_table::refused` meets its contract.
-- Assumes nothing.
use Rattle.std.proofs.Common.{refl}
use Rattle.plan_table.proofs.refused.Goals as goal

pub returns : goal.returns
returns c = rw (c.no_sums-sums.ensures, c.no_summary-summary.ensures) refl
