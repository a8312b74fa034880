-- `table_lines::put_answer` meets its contract.
-- Assumes nothing.
use borrow.Author.Tests.{eq-eqb, ne_eqb}
use Rattle.table_lines.specs.Lines.{answer_bytes}
use Rattle.table_lines.proofs.put_answer.Goals as goal

pub returns-then-number-ne0 : goal.returns-then-number-ne0
unfolding answer_bytes
returns-then-number-ne0 c = rw (ne_eqb _ 0 c.if-number-ne0.true) c.put_refused.ensures

pub returns-then-release : goal.returns-then-release
unfolding answer_bytes
returns-then-release c = rw (eq-eqb _ 0 c.if-number-ne0.false, c.if-release.true) c.put_text.ensures

pub returns : goal.returns
unfolding answer_bytes
returns c = rw (eq-eqb _ 0 c.if-number-ne0.false, c.if-release.false) c.put_text-2.ensures
