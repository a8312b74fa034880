-- `geometry_counts::head::rmap_block` meets its contract: each call gives what its definition says.
-- Assumes nothing.
use mathlib.Core.Path.{ap, ◌∙◌}
use Rattle.geometry_counts.specs.Known.{known}
use Rattle.geometry_counts.proofs.head.rmap_block.Goals as goal

pub returns : goal.returns
returns c = c.known.ensures ∙ ap (known _) c.rmap_of.ensures
