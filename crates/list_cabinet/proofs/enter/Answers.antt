-- `list_cabinet::enter` meets its contract.
-- Assumes nothing.
use Rattle.list_cabinet.proofs.Entering.{turned-away, looked-at}
use Rattle.list_cabinet.proofs.enter.Goals as goal

pub returns-then-number-ne0 : goal.returns-then-number-ne0
returns-then-number-ne0 c = turned-away c.args.c c.args.input.now _ _ c.number_in-number.ensures c.if-number-ne0.true c.refused.ensures

pub returns : goal.returns
returns c = rw (looked-at c.args.c c.args.input.now c.number_in-number.result c.number_in-number.ensures c.if-number-ne0.false, c.saturating_sub-2.ensures, c.saturating_sub.ensures, c.taken_by-taken.ensures, c.answer_with-size.ensures, c.list_size-own.ensures)
