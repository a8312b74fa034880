-- `list_apply::in_limit` meets its contract.
-- Assumes nothing.
use Rattle.std.proofs.Common.{arith}
use Rattle.list_apply.proofs.Steps.{limit-past, limit-kept}
use Rattle.list_apply.proofs.in_limit.Goals as goal

pub returns-then-limit-at : goal.returns-then-limit-at
returns-then-limit-at c = limit-past _ _ _ (omega arith)

pub returns-then-limit-at-2 : goal.returns-then-limit-at-2
returns-then-limit-at-2 c = limit-past _ _ _ (omega arith)

pub returns : goal.returns
returns c = limit-kept _ _ _ _ (omega arith) c.within.ensures
