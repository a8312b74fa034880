-- `geometry_counts::head::ag_max_usable` meets its contract: each call gives what its definition says.
-- Assumes nothing.
use mathlib.Core.Path.{ap, ◌∙◌}
use Rattle.geometry_counts.specs.Known.{known}
use Rattle.geometry_counts.proofs.head.ag_max_usable.Goals as goal

pub returns : goal.returns
returns c = c.known.ensures ∙ ap (known _) c.usable_of.ensures
