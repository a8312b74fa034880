-- `list_apply::held_back` meets its contract.
-- Assumes nothing.
use Rattle.list_apply.proofs.Steps.{held-step}
use Rattle.list_apply.proofs.held_back.Goals as goal

pub returns : goal.returns
returns c = held-step _ _ _ _ _ c.following_of.ensures c.idle_step.ensures
