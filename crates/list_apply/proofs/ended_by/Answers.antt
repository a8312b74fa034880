-- `list_apply::ended_by` meets its contract.
-- Assumes nothing.
use Rattle.list_apply.proofs.Steps.{end_whole, end-cut}
use Rattle.list_apply.proofs.ended_by.Goals as goal

pub returns-then-ended-eq0 : goal.returns-then-ended-eq0
returns-then-ended-eq0 c = end_whole _ _ _ c.ended.ensures c.if-ended-eq0.true c.stopped_by.ensures

pub returns : goal.returns
returns c = end-cut _ _ _ c.ended.ensures c.if-ended-eq0.false c.stopped_by-2.ensures
