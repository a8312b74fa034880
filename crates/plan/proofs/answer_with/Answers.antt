-- `plan::answer_with` meets its contract.
-- Assumes nothing.
use Rattle.plan.specs.Plan.{plan_answer}
use borrow.Author.Tests.{eq-eqb, ne_eqb}
use mathlib.Core.Path.{◌∙◌}
use Rattle.plan.proofs.answer_with.Goals as goal

pub returns-then-number-eq0 : goal.returns-then-number-eq0
unfolding plan_answer
returns-then-number-eq0 c = rw (eq-eqb _ _ c.if-number-eq0.true)

pub returns : goal.returns
unfolding plan_answer
returns c = c.refuse.ensures ∙ rw (ne_eqb _ _ c.if-number-eq0.false)
