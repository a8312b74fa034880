-- `head_leaves::chunk_rec` meets its contract.
-- Assumes nothing.
use Rattle.head_leaves.specs.Leaves.{chunk_rec}
use Rattle.head_leaves.proofs.chunk_rec.Goals as goal

pub returns : goal.returns
unfolding chunk_rec
returns c = cc
