-- `list_write::split::put_head` meets its contract.
-- Assumes nothing.
use Rattle.list_write.proofs.Splitting.{head_done}
use Rattle.list_write.proofs.split.put_head.Goals as goal

pub returns : goal.returns
returns c = head_done _ _ _ _ _ _ _ _ c.requires c.put64.ensures c.put64-2.ensures c.put16.ensures
