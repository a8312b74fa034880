-- `request_words::records::device_record` meets its contract.
-- Assumes nothing.
use Rattle.request.specs.Cases.{dv}
use Rattle.endian.specs.Bytes.{be_bytes, patch}
use Rattle.request_words.proofs.records.device_record.Goals as goal

pub returns : goal.returns
unfolding dv be_bytes patch
returns c = c.put_all.ensures.bytes
