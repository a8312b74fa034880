-- `chunk::inodes::put_bitmap` meets its contract.
-- Assumes nothing.
use Rattle.chunk.proofs.Values.{none_inside, file-fit, file-over}
use Rattle.chunk.proofs.Pieces.{slot-room}
use native.Mathlib.Omega.{arith}
use Rattle.chunk.proofs.inodes.put_bitmap.Goals as goal

pub put_file-requires : goal.put_file-requires
put_file-requires c = (c.requires.0, slot-room 1 64 _ _ (omega arith) c.requires.1, file-fit _ _ _ _ _ _ _ c.file_inode-d.ensures (none_inside _) c.requires.3)

pub returns : goal.returns
returns c = file-over _ _ _ _ _ _ _ c.file_inode-d.ensures _ _ _ _ _ c.put_file.ensures
