-- `list_send::wants` meets its contract.
-- Assumes nothing.
use Rattle.list_send.proofs.Turns.{wants-refused, wants-none, wants-chunk}
use Rattle.list_send.proofs.wants.Goals as goal

pub returns-then-run-ne0 : goal.returns-then-run-ne0
returns-then-run-ne0 c = wants-refused _ c.if-run-ne0.true

pub returns-then-s-eq0 : goal.returns-then-s-eq0
returns-then-s-eq0 c = wants-none _ c.if-run-ne0.false c.if-s-eq0.true

pub returns : goal.returns
returns c = wants-chunk _ _ _ c.if-run-ne0.false c.if-s-eq0.false c.next_of.ensures c.piece_length.ensures
