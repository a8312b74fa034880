-- `geometry_counts::stripes::rextsize` meets its contract.
-- Assumes nothing.
use mathlib.Core.Path.{ap, ◌∙◌}
use Rattle.geometry_counts.specs.Known.{known}
use Rattle.geometry_counts.proofs.stripes.rextsize.Goals as goal

pub returns : goal.returns
returns c = c.known.ensures ∙ ap (known _) c.rext_of.ensures
