-- `reader_pass::head_bytes` meets its contract.
-- Assumes nothing.
use Rattle.head_bytes.specs.Head.{head_length}
use Rattle.reader_pass.proofs.head_bytes.Goals as goal

pub returns : goal.returns
unfolding head_length
returns c = c.head_length.ensures
