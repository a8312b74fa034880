-- `geometry_counts::head::header_blocks` meets its contract: each call gives what its definition says.
-- Assumes nothing.
use mathlib.Core.Path.{ap, ◌∙◌}
use Rattle.geometry_counts.specs.Known.{known}
use Rattle.geometry_counts.proofs.head.header_blocks.Goals as goal

pub returns : goal.returns
returns c = c.known.ensures ∙ ap (known _) c.header_of.ensures
