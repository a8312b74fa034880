-- `list_apply::waits` meets its contract.
-- Assumes nothing.
use Rattle.std.proofs.Common.{refl}
use Rattle.list_apply.proofs.Steps.{waits-zeros, waits-none}
use Rattle.list_apply.proofs.waits.Goals as goal

pub returns-then-first-eq-AHEAD : goal.returns-then-first-eq-AHEAD
returns-then-first-eq-AHEAD c = waits-zeros _ _ _ c.if-first-eq-AHEAD.true refl

pub returns : goal.returns
returns c = waits-none _ _ c.if-first-eq-AHEAD.false
