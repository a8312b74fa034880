-- `list_apply::feed_record` meets its contract.
-- Assumes nothing.
use Rattle.list_apply.proofs.Steps.{record-behind, record-taken, record-far}
use Rattle.list_apply.proofs.feed_record.Goals as goal

pub returns-then-passed-ne0 : goal.returns-then-passed-ne0
returns-then-passed-ne0 c = record-behind _ _ _ _ _ _ c.next-passed.ensures c.if-passed-ne0.true c.stopped_by.ensures

pub returns-then-in_limit : goal.returns-then-in_limit
returns-then-in_limit c = record-taken _ _ _ _ _ _ c.next-passed.ensures _ c.if-passed-ne0.false c.in_limit.ensures c.if-in_limit.true c.accepted_by.ensures

pub returns : goal.returns
returns c = record-far _ _ _ _ _ _ c.next-passed.ensures _ c.if-passed-ne0.false c.in_limit.ensures c.if-in_limit.false c.stopped_by-2.ensures
