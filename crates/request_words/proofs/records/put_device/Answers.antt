-- `request_words::records::put_device` meets its contract.
-- Assumes nothing.
use Rattle.request_words.proofs.Writing.{device-put}
use Rattle.endian.proofs.Laws.{put_in}
use borrow.Author.Rules.{rules}
use Rattle.request_words.proofs.records.put_device.Goals as goal

pub returns : goal.returns
returns c = device-put _ _ _ _ c.find-size.ensures c.find-logical.ensures c.find-physical.ensures _ _ _ c.device_record-bytes.ensures (put_in c.put_bytes.ensures (search rules))
