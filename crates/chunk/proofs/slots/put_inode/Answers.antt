-- `chunk::slots::put_inode` meets its contract.
-- Assumes nothing.
use Rattle.chunk.proofs.Pieces.{inode-back}
use Rattle.chunk.proofs.slots.put_inode.Goals as goal

pub returns : goal.returns
returns c = inode-back _ _ _ _ _ _ _ c.requires.1 c.requires.0 c.encode.ensures.written
