-- `btree_records::InobtRecRecord::put` meets its contract.
-- Assumes nothing.
use Rattle.std.proofs.Common.{rules}
use Rattle.btree.proofs.Laws.{sparse-put, full_put}
use Rattle.endian.proofs.Laws.{put_in}
use Rattle.btree_records.proofs.InobtRecRecord.put.Goals as goal
use Rattle.btree_records.proofs.InobtRecRecord.put.Goals.{then-sparse, else-sparse}

pub returns : goal.returns
returns c = let args = c.args in
    elim c.if-sparse.branch [
      | then-sparse w ↦ rw (put_in c.put32-2.ensures (search rules), w.out-is, put_in w.put16.ensures (search rules), put_in w.put8-then-sparse.ensures (search rules), put_in w.put8.ensures (search rules), put_in c.put64.ensures (search rules), w.if-sparse.true) (sparse-put args.o args.out.now args.self)
      | else-sparse w ↦ rw (put_in c.put32-2.ensures (search rules), w.out-is, put_in w.put32.ensures (search rules), w.from.ensures, put_in c.put64.ensures (search rules), w.if-sparse.false) (full_put args.o args.out.now args.self)
    ]
