-- `geometry_counts::inodes::chunk_blocks` meets its contract: each call gives what its definition says.
-- Assumes nothing.
use mathlib.Core.Path.{ap, ◌∙◌}
use Rattle.geometry_counts.specs.Known.{known}
use Rattle.geometry_counts.proofs.inodes.chunk_blocks.Goals as goal

pub returns : goal.returns
returns c = c.known.ensures ∙ ap (known _) c.chunk_of.ensures
