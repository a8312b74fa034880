-- `plan_table::lines::put_group` meets its contract.
-- Assumes nothing.
use Rattle.plan_table.proofs.lines.put_group.Goals as goal

pub returns : goal.returns
returns c = rw (← c.row_in-row.ensures) c.put_row.ensures
