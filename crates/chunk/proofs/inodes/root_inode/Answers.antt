-- `chunk::inodes::root_inode` meets its contract.
-- Assumes nothing.
use Rattle.chunk.proofs.inodes.root_inode.Goals as goal

pub returns : goal.returns
returns c = rw c.requires
