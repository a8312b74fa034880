-- `plan_rmap::inserting::refused` meets its contract.
-- Assumes nothing.
use Rattle.plan_rmap.proofs.inserting.refused.Goals as goal

pub returns : goal.returns
returns c = rw c.empty-list.ensures
