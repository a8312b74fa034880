-- `log_record::parts::record_blocks` meets its contract.
-- Assumes nothing.
use native.Mathlib.Omega.{arith}
use Rattle.log_record.specs.Record.{basic_blocks_of, rounded_up}
use Rattle.log_record.proofs.parts.record_blocks.Goals as goal

pub returns : goal.returns
unfolding basic_blocks_of rounded_up
returns c = omega arith
