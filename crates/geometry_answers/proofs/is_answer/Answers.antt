-- `geometry_answers::is_answer` meets its contract: each call gives what its definition says.
-- Assumes nothing.
use borrow.Author.Tests.{eq-eqb, ne_eqb}
use Rattle.geometry_answers.specs.Named.{is_answer}
use Rattle.geometry_answers.proofs.is_answer.Goals as goal

pub returns-then-answer-eq0 : goal.returns-then-answer-eq0
unfolding is_answer
returns-then-answer-eq0 c = rw (← c.names_of.ensures, ← c.answer-answer.ensures, eq-eqb _ _ c.if-answer-eq0.true) c.same_geometry.ensures

pub returns-else-answer-eq0 : goal.returns-else-answer-eq0
unfolding is_answer
returns-else-answer-eq0 c = rw (← c.names_of.ensures, ← c.answer-answer.ensures, ne_eqb _ _ c.if-answer-eq0.false)
