-- `crc::stored` meets its contract.
-- Assumes nothing.
use Rattle.crc.specs.Right.{stored_at}
use Rattle.crc.proofs.stored.Goals as goal

pub returns : goal.returns
unfolding stored_at
returns c = cc
