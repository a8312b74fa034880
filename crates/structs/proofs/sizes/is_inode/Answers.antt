-- `structs::sizes::is_inode` meets its contract.
-- Assumes nothing.
use Rattle.structs.specs.Sizes.{is_inode}
use Rattle.structs.proofs.sizes.is_inode.Goals as goal

pub returns : goal.returns
unfolding is_inode
returns c = cc
