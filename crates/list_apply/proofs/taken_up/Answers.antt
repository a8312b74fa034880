-- `list_apply::taken_up` meets its contract.
-- Assumes nothing.
use Rattle.list_apply.proofs.Steps.{taken-flush, taken-write}
use Rattle.list_apply.proofs.taken_up.Goals as goal

pub returns-then-kind-eq-FLUSH : goal.returns-then-kind-eq-FLUSH
returns-then-kind-eq-FLUSH c = taken-flush _ _ _ _ _ _ _ c.following_of.ensures c.idle_step-s.ensures c.if-kind-eq-FLUSH.true

pub returns-else-kind-eq-FLUSH : goal.returns-else-kind-eq-FLUSH
returns-else-kind-eq-FLUSH c = taken-write _ _ _ _ _ _ _ c.following_of.ensures c.idle_step-s.ensures c.if-kind-eq-FLUSH.false
