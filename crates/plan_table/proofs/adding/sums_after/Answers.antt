-- `plan_table::adding::sums_after` meets its contract.
-- Assumes nothing.
use Rattle.plan_table.proofs.Summed.{refused-adds, last-adds, header-adds, row-adds}
use Rattle.plan_table.proofs.adding.sums_after.Goals as goal

pub returns-then-t-ne0 : goal.returns-then-t-ne0
returns-then-t-ne0 c = refused-adds c.args.t c.if-t-ne0.true

pub returns-then-left-le1 : goal.returns-then-left-le1
returns-then-left-le1 c = last-adds c.args.t c.if-t-ne0.false c.if-left-le1.true

pub returns-then-groups-left : goal.returns-then-groups-left
returns-then-groups-left c = header-adds c.args.t c.if-t-ne0.false c.if-left-le1.false c.if-groups-left.true

pub returns : goal.returns
returns c = row-adds c.args.t c.if-t-ne0.false c.if-left-le1.false c.if-groups-left.false c.saturating_sub.ensures c.saturating_sub-2.ensures c.row_in-row.ensures c.with_row.ensures
