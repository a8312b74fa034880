-- `list_write::split::put_nth` meets its contract.
-- Assumes nothing.
use Rattle.list_write.proofs.Splitting.{nth-done}
use Rattle.list_write.proofs.split.put_nth.Goals as goal

pub returns : goal.returns
returns c = nth-done _ _ _ _ _ _ _ c.put_block.ensures
