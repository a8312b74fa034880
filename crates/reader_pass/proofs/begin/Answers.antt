-- `reader_pass::begin` meets its contract.
-- Assumes nothing.
use Rattle.reader_pass.proofs.begin.Goals as goal

pub returns : goal.returns
returns c = rw c.zero-geometry.ensures
