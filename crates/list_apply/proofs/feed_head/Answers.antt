-- `list_apply::feed_head` meets its contract.
-- Assumes nothing.
use Rattle.std.proofs.Common.{arith}
use Rattle.list_apply.proofs.Steps.{head-rest, head-ended, head_first}
use Rattle.list_apply.proofs.feed_head.Goals as goal

pub returns-then-a : goal.returns-then-a
returns-then-a c = head-rest _ _ _ c.if-a.true c.feed_decoded.ensures

pub returns-then-bytes-eq0 : goal.returns-then-bytes-eq0
returns-then-bytes-eq0 c = head-ended _ _ _ c.if-a.false (omega arith) c.ended_by.ensures

pub returns : goal.returns
returns c = head_first _ _ _ c.if-a.false (λ z. omega arith) c.feed_decoded-2.ensures
