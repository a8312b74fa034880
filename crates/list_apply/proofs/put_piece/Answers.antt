-- `list_apply::put_piece` meets its contract.
-- Assumes nothing.
use Rattle.list_apply.proofs.Steps.{piece-put}
use Rattle.list_apply.proofs.put_piece.Goals as goal

pub returns : goal.returns
returns c = piece-put _ _ _ _ _ c.saturating_sub-left.ensures c.following_of.ensures c.wrapping_add_u64.ensures.value
