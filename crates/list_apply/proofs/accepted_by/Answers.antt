-- `list_apply::accepted_by` meets its contract.
-- Assumes nothing.
use Rattle.list_apply.proofs.Steps.{accepted-held, accepted-waits, accepted-taken}
use Rattle.list_apply.proofs.accepted_by.Goals as goal

pub returns-then-a-eq-HELD : goal.returns-then-a-eq-HELD
returns-then-a-eq-HELD c = accepted-held _ _ _ _ _ _ c.if-a-eq-HELD.true c.released.ensures

pub returns-then-waits : goal.returns-then-waits
returns-then-waits c = accepted-waits _ _ _ _ _ _ c.if-a-eq-HELD.false _ c.waits.ensures c.if-waits.true c.held_back.ensures

pub returns : goal.returns
returns c = accepted-taken _ _ _ _ _ _ c.if-a-eq-HELD.false _ c.waits.ensures c.if-waits.false c.taken_up.ensures
