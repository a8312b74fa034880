-- `list_apply::feed_decoded` meets its contract.
-- Assumes nothing.
use Rattle.list_apply.proofs.Steps.{head-malformed, head-marked, head-whole}
use Rattle.list_apply.proofs.feed_decoded.Goals as goal

pub returns-then-d-ne0 : goal.returns-then-d-ne0
returns-then-d-ne0 c = head-malformed _ _ _ _ _ c.head_size.ensures c.decode-d.ensures c.if-d-ne0.true c.stopped_by.ensures

pub returns-then-d-eq-MORE : goal.returns-then-d-eq-MORE
returns-then-d-eq-MORE c = head-marked _ _ _ _ _ c.head_size.ensures c.decode-d.ensures c.if-d-ne0.false c.if-d-eq-MORE.true c.marked_step.ensures

pub returns : goal.returns
returns c = head-whole _ _ _ _ _ c.head_size.ensures c.decode-d.ensures c.if-d-ne0.false c.if-d-eq-MORE.false c.feed_record.ensures
