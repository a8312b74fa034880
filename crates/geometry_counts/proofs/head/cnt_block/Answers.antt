-- `geometry_counts::head::cnt_block` meets its contract: each call gives what its definition says.
-- Assumes nothing.
use Rattle.geometry_layout.specs.Places.{cnt_block}
use mathlib.Core.Path.{ap, ◌∙◌}
use Rattle.geometry_counts.specs.Known.{known}
use Rattle.geometry_counts.proofs.head.cnt_block.Goals as goal

pub returns : goal.returns
unfolding cnt_block
returns c = c.known.ensures ∙ ap (known _) c.after_header.ensures
