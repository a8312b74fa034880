-- `geometry_counts::stripes::logsunit` meets its contract.
-- Assumes nothing.
use mathlib.Core.Path.{ap, ◌∙◌}
use Rattle.geometry_layout.specs.Places.{logsunit_of}
use Rattle.geometry_counts.specs.Known.{known}
use Rattle.geometry_counts.proofs.stripes.logsunit.Goals as goal

pub returns : goal.returns
returns c = c.known.ensures ∙ ap (known _) (c.logsunit_of.ensures ∙ ap logsunit_of c.lsunit_of.ensures)
