-- `log_record::first_record` meets its contract.
-- Assumes nothing.
use Rattle.log_record.specs.Record.{lsn_of}
use Rattle.log_record.proofs.first_record.Goals as goal

pub returns : goal.returns
unfolding lsn_of
returns c = rw c.lsn-l.ensures at c.before.before.before.«record».ensures
