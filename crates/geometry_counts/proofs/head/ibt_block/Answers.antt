-- `geometry_counts::head::ibt_block` meets its contract: each call gives what its definition says.
-- Assumes nothing.
use Rattle.geometry_layout.specs.Places.{ibt_block}
use mathlib.Core.Path.{ap, ◌∙◌}
use Rattle.geometry_counts.specs.Known.{known}
use Rattle.geometry_counts.proofs.head.ibt_block.Goals as goal

pub returns : goal.returns
unfolding ibt_block
returns c = c.known.ensures ∙ ap (known _) c.after_header.ensures
