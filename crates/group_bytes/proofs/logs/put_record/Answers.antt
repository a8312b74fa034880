-- `group_bytes::logs::put_record` meets its contract.
-- Assumes nothing.
use Rattle.group_bytes.proofs.Logging.{record-back}
use Rattle.group_bytes.proofs.logs.put_record.Goals as goal

pub returns : goal.returns
returns c = record-back _ _ _ _ _ c.requires.1 c.requires.0 c.first_record.ensures
