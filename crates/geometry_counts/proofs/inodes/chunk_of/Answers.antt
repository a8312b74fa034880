-- `geometry_counts::inodes::chunk_of` meets its contract.
-- Assumes nothing.
use Rattle.geometry_layout.specs.Places.{chunk_of}
use Rattle.geometry_counts.proofs.inodes.chunk_of.Goals as goal

pub returns : goal.returns
unfolding chunk_of
returns c = cc
