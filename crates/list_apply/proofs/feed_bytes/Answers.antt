-- `list_apply::feed_bytes` meets its contract.
-- Assumes nothing.
use Rattle.std.proofs.Common.{arith}
use Rattle.list_apply.proofs.Steps.{bytes_cut, bytes-put}
use Rattle.list_apply.proofs.feed_bytes.Goals as goal

pub returns-then-bytes-n : goal.returns-then-bytes-n
returns-then-bytes-n c = bytes_cut _ _ _ _ _ c.piece_of-n.ensures (omega arith) c.stopped_by.ensures

pub returns : goal.returns
returns c = bytes-put _ _ _ _ _ c.piece_of-n.ensures (omega arith) c.put_piece.ensures
