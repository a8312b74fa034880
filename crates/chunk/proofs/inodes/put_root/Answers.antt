-- `chunk::inodes::put_root` meets its contract.
-- Assumes nothing.
use Rattle.chunk.proofs.Values.{dir-inside, dir-length, root-accepted, root_over_lem}
use Rattle.chunk.proofs.Pieces.{slot-room}
use native.Mathlib.Omega.{arith}
use Rattle.chunk.proofs.inodes.put_root.Goals as goal

pub slice_bounds-bytes-end : goal.slice_bounds-bytes-end
slice_bounds-bytes-end c = dir-inside _ _ _ c.empty_sf_dir-dir.ensures

pub slice_bounds-put_inode-end : goal.slice_bounds-put_inode-end
slice_bounds-put_inode-end c = dir-length _ _ _ c.empty_sf_dir-dir.ensures

pub put_inode-requires : goal.put_inode-requires
put_inode-requires c = (root-accepted _ _ _ c.empty_sf_dir-dir.ensures _ _ _ _ c.root_inode-d.ensures c.requires.0 c.requires.2, slot-room 0 64 _ _ (omega arith) c.requires.1)

pub returns : goal.returns
returns c = root_over_lem _ _ _ c.empty_sf_dir-dir.ensures _ c.args.size _ _ c.root_inode-d.ensures _ _ _ _ _ c.put_inode.ensures
