-- `request_words::records::put_uuid` meets its contract.
-- Assumes nothing.
use Rattle.request_words.proofs.Writing.{uuid-put, uuid-skip}
use Rattle.endian.proofs.Laws.{put_in}
use borrow.Author.Rules.{rules}
use Rattle.request_words.proofs.records.put_uuid.Goals as goal

pub returns-then-w-eq1 : goal.returns-then-w-eq1
returns-then-w-eq1 c = uuid-put _ _ _ _ c.find-w.ensures _ c.if-w-eq1.true _ _ (put_in c.put_bytes.ensures (search rules)) (rw c.pairs.ensures at (put_in c.put_bytes-then-w-eq1.ensures (search rules)))

pub returns : goal.returns
returns c = uuid-skip _ _ _ _ c.find-w.ensures _ c.if-w-eq1.false
