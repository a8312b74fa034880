-- `list_write::split::put_block` meets its contract.
-- Assumes nothing.
use Rattle.list_write.proofs.Splitting.{block-done}
use Rattle.list_write.proofs.split.put_block.Goals as goal

pub returns : goal.returns
returns c = block-done _ _ _ _ _ _ c.copy.ensures c.put_head.ensures
