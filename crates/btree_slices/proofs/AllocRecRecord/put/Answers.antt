-- `btree_slices::AllocRecRecord::put` meets its contract.
-- Assumes nothing.
use Rattle.std.proofs.Common.{rules}
use Rattle.btree.proofs.Laws.{alloc-put}
use Rattle.endian.proofs.Laws.{put_in}
use Rattle.btree_slices.proofs.AllocRecRecord.put.Goals as goal

pub returns : goal.returns
returns c = let args = c.args in
    rw (put_in c.put32-2.ensures (search rules), put_in c.put32.ensures (search rules)) (alloc-put args.o args.out.now args.self)
