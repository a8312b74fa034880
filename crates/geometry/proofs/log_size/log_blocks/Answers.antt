-- `geometry::log_size::log_blocks` meets its contract.
-- Assumes nothing.
use Rattle.std.proofs.Common.{rules}
use Rattle.geometry.specs.Log.{log_blocks}
use Rattle.geometry.proofs.log_size.log_blocks.Goals as goal

pub returns : goal.returns
unfolding log_blocks
returns c = search rules
