-- `geometry_counts::head::fibt_block` meets its contract: each call gives what its definition says.
-- Assumes nothing.
use Rattle.geometry_layout.specs.Places.{fibt_block}
use mathlib.Core.Path.{ap, ◌∙◌}
use Rattle.geometry_counts.specs.Known.{known}
use Rattle.geometry_counts.proofs.head.fibt_block.Goals as goal

pub returns : goal.returns
unfolding fibt_block
returns c = c.known.ensures ∙ ap (known _) c.after_header.ensures
