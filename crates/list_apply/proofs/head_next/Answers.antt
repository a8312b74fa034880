-- `list_apply::head_next` meets its contract.
-- Assumes nothing.
use Rattle.std.proofs.Common.{refl}
use Rattle.list_apply.proofs.Steps.{next-held, next-whole}
use Rattle.list_apply.proofs.head_next.Goals as goal

pub returns-then-a-eq-HELD : goal.returns-then-a-eq-HELD
returns-then-a-eq-HELD c = next-held _ c.if-a-eq-HELD.true

pub returns : goal.returns
returns c = next-whole _ _ c.if-a-eq-HELD.false refl
