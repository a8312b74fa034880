-- `list_send::begin` meets its contract.
-- Assumes nothing.
use Rattle.list_send.proofs.Turns.{begin-refused, begin-ready}
use Rattle.list_send.proofs.begin.Goals as goal

pub returns-then-run-ne0 : goal.returns-then-run-ne0
returns-then-run-ne0 c = begin-refused _ _ _ c.parse-asked.ensures c.run_of-run.ensures c.if-run-ne0.true

pub returns : goal.returns
returns c = begin-ready _ _ _ c.parse-asked.ensures c.run_of-run.ensures _ c.if-run-ne0.false c.piece_count-count.ensures
