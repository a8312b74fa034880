-- `request_words::records::put_option` meets its contract.
-- Assumes nothing.
use Rattle.request_words.proofs.Writing.{option-put, option-skip}
use Rattle.endian.proofs.Laws.{put_in}
use borrow.Author.Rules.{rules}
use Rattle.request_words.proofs.records.put_option.Goals as goal

pub returns-then-w-code : goal.returns-then-w-code
returns-then-w-code c = option-put _ _ _ _ c.find-w.ensures _ c.if-w-code.true _ _ c.option_record-bytes.ensures (put_in c.put_bytes.ensures (search rules))

pub returns : goal.returns
returns c = option-skip _ _ _ _ c.find-w.ensures _ c.if-w-code.false
