-- `btree_records::RmapRecRecord::put` meets its contract.
-- Assumes nothing.
use Rattle.std.proofs.Common.{rules}
use Rattle.btree.proofs.Laws.{rmap-put}
use Rattle.endian.proofs.Laws.{put_in}
use Rattle.btree_records.proofs.RmapRecRecord.put.Goals as goal

pub returns : goal.returns
returns c = let args = c.args in
    rw (put_in c.put32-2.ensures (search rules), put_in c.put32.ensures (search rules), put_in c.put64-2.ensures (search rules), put_in c.put64.ensures (search rules)) (rmap-put args.o args.out.now args.self)
