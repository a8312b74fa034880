-- `geometry::log_size::header_of` meets its contract.
-- Assumes nothing.
use Rattle.geometry.specs.Log.{header_of}
use Rattle.geometry.proofs.log_size.header_of.Goals as goal

pub returns : goal.returns
unfolding header_of
returns c = rw c.div_ceil.ensures
