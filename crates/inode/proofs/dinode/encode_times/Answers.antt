-- `inode::dinode::encode_times` meets its contract.
-- Assumes nothing.
use Rattle.inode.proofs.Core.{times-are}
use Rattle.inode.proofs.dinode.encode_times.Goals as goal

pub returns : goal.returns
returns c = times-are _ _ _ _ _ _ _ _ _ _ _ _ _ _ _ _ _ c.is_big-big.ensures c.encode_time-a.ensures c.encode_time-m.ensures c.encode_time-c.ensures c.encode_time-r.ensures c.or_else.ensures c.or_else-2.ensures c.or_else-3.ensures
