-- `geometry_counts::stripes::logsunit_of` meets its contract.
-- Assumes nothing.
use Rattle.std.proofs.Common.{rules}
use Rattle.arith.specs.Choice.{when}
use Rattle.geometry_layout.specs.Places.{logsunit_of}
use Rattle.geometry_counts.proofs.stripes.logsunit_of.Goals as goal

pub returns : goal.returns
unfolding logsunit_of when
returns c = search rules
