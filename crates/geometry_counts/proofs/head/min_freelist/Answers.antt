-- `geometry_counts::head::min_freelist` meets its contract: each call gives what its definition says.
-- Assumes nothing.
use mathlib.Core.Path.{ap, ◌∙◌}
use Rattle.geometry_counts.specs.Known.{known}
use Rattle.geometry_counts.proofs.head.min_freelist.Goals as goal

pub returns : goal.returns
returns c = c.known.ensures ∙ ap (known _) c.freelist_of.ensures
