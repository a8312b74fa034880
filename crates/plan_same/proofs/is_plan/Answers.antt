-- `plan_same::is_plan` meets its contract.
-- Assumes nothing.
use borrow.Author.Tests.{eq-eqb, ne_eqb}
use Rattle.plan_same.specs.Same.{is_plan}
use Rattle.plan_same.proofs.is_plan.Goals as goal

pub returns-then-again-eq0 : goal.returns-then-again-eq0
unfolding is_plan
returns-then-again-eq0 c = rw (← c.plan_ag-again.ensures, eq-eqb _ _ c.if-again-eq0.true) c.same_plan.ensures

pub returns-else-again-eq0 : goal.returns-else-again-eq0
unfolding is_plan
returns-else-again-eq0 c = rw (← c.plan_ag-again.ensures, ne_eqb _ _ c.if-again-eq0.false)
