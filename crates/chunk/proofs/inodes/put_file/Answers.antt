-- `chunk::inodes::put_file` meets its contract.
-- Assumes nothing.
use Rattle.chunk.proofs.Values.{never-refused}
use native.Mathlib.Omega.{arith}
use Rattle.chunk.proofs.inodes.put_file.Goals as goal

pub put_inode-requires : goal.put_inode-requires
put_inode-requires c = let p = c.requires in
    (never-refused _ 0 _ p.0 (omega arith) p.2, p.1)
