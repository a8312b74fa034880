-- `list_apply::following_of` meets its contract.
-- Assumes nothing.
use Rattle.list_apply.proofs.Steps.{following-next, following-same}
use Rattle.list_apply.proofs.following_of.Goals as goal

pub returns-then-left-eq0 : goal.returns-then-left-eq0
returns-then-left-eq0 c = following-next _ _ _ c.if-left-eq0.true c.wrapping_add_u64.ensures.value

pub returns : goal.returns
returns c = following-same _ _ c.if-left-eq0.false
