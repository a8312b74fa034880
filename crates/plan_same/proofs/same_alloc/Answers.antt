-- `plan_same::same_alloc` meets its contract.
-- Assumes nothing.
use Rattle.plan_same.specs.Same.{same_alloc}
use Rattle.plan_same.proofs.same_alloc.Goals as goal

pub returns : goal.returns
unfolding same_alloc
returns c = c.eq.ensures
