-- `inquire_holds::step` meets its contract.
-- Assumes nothing.
use borrow.Author.Tests.{eq-eqb, ne_eqb}
use Rattle.inquire_holds.specs.Calls.{call_stepped}
use Rattle.inquire_holds.proofs.step.Goals as goal

pub returns-then-t-eq0 : goal.returns-then-t-eq0
unfolding call_stepped
returns-then-t-eq0 c = rw (← c.answer-t.ensures, eq-eqb _ 0 c.if-t-eq0.true)

pub returns-else-t-eq0 : goal.returns-else-t-eq0
unfolding call_stepped
returns-else-t-eq0 c = rw (← c.answer-t.ensures, ne_eqb _ 0 c.if-t-eq0.false)
