-- `plan::fill::finish` meets its contract.
-- Assumes nothing.
use Rattle.plan.specs.Plan.{noted}
use borrow.Author.Tests.{eq-eqb, ne_eqb}
use mathlib.Core.Path.{◌∙◌}
use Rattle.plan.proofs.fill.finish.Goals as goal

pub returns-then-number-eq0 : goal.returns-then-number-eq0
unfolding noted
returns-then-number-eq0 c = rw (eq-eqb _ _ c.if-number-eq0.true)

pub returns : goal.returns
unfolding noted
returns c = c.fail.ensures ∙ rw (ne_eqb _ _ c.if-number-eq0.false)
