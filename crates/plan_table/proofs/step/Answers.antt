-- `plan_table::step` meets its contract.
-- Assumes nothing.
use Rattle.plan_table.proofs.Steps.{stepped-full, stepped-put}
use Rattle.plan_table.proofs.step.Goals as goal

pub returns-then-w-ne0 : goal.returns-then-w-ne0
returns-then-w-ne0 c = stepped-full _ _ _ c.put_line-w.ensures c.if-w-ne0.true

pub returns : goal.returns
returns c = stepped-put _ _ _ c.put_line-w.ensures c.if-w-ne0.false c.after_line-table.ensures
