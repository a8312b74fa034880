-- `geometry_counts::inodes::cluster_of` meets its contract: each call gives what its definition says.
-- Assumes nothing.
use Rattle.geometry_layout.specs.Places.{cluster_of}
use Rattle.geometry_counts.proofs.inodes.cluster_of.Goals as goal

pub returns : goal.returns
unfolding cluster_of
returns c = cc
