-- `plan_holds::runs::starts_on` meets its contract.
-- Assumes nothing.
use Rattle.plan_holds.specs.Holding.{starts_on}
use Rattle.plan_holds.proofs.runs.starts_on.Goals as goal

pub returns-then-low : goal.returns-then-low
unfolding starts_on
returns-then-low c = simp c.if-low.true

pub returns-else-low : goal.returns-else-low
unfolding starts_on
returns-else-low c = simp c.if-low.false
