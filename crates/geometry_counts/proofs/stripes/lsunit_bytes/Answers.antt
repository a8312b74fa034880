-- `geometry_counts::stripes::lsunit_bytes` meets its contract.
-- Assumes nothing.
use mathlib.Core.Path.{ap, ◌∙◌}
use Rattle.geometry_counts.specs.Known.{known}
use Rattle.geometry_counts.proofs.stripes.lsunit_bytes.Goals as goal

pub returns : goal.returns
returns c = c.known.ensures ∙ ap (known _) c.lsunit_of.ensures
