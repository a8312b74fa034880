-- `plan_free::taking::refused` meets its contract.
-- Assumes nothing.
use Rattle.plan_free.proofs.taking.refused.Goals as goal

pub returns : goal.returns
returns c = rw c.empty-list.ensures
