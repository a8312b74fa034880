-- `plan_table::no_disk` meets its contract.
-- Assumes nothing.
use Rattle.std.proofs.Common.{refl}
use Rattle.plan_table.proofs.Begun.{no-disk-rest}
use Rattle.plan_table.proofs.no_disk.Goals as goal

pub returns : goal.returns
returns c = rw (c.no_sums-sums.ensures, c.no_summary-summary.ensures) (refl, no-disk-rest)
