-- `log_record::lsn` meets its contract.
-- Assumes nothing.
use mathlib.Core.Path.{refl}
use Rattle.log_record.specs.Record.{lsn_of}
use Rattle.log_record.proofs.lsn.Goals as goal

pub returns : goal.returns
unfolding lsn_of
returns c = refl
