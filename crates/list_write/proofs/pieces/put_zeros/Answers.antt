-- `list_write::pieces::put_zeros` meets its contract.
-- Assumes nothing.
use Rattle.list_write.proofs.PieceLaws.{zeros-done}
use Rattle.list_write.proofs.pieces.put_zeros.Goals as goal

pub returns : goal.returns
returns c = zeros-done _ _ _ _ _ _ _ _ _ _ _ _ _ c.round_down-end.ensures c.saturating_sub.ensures c.round_down-tail.ensures c.saturating_sub-2.ensures c.min_u64.ensures c.put_head.ensures c.put_head-2.ensures c.put_head-3.ensures
