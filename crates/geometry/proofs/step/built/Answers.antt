-- `geometry::step::built` meets its contract.
-- Assumes nothing.
use Rattle.std.proofs.Common.{rules}
use Rattle.arith.specs.Choice.{when}
use Rattle.geometry.specs.Compute.{geometry_of}
use Rattle.geometry.proofs.step.built.Goals as goal

pub returns : goal.returns
unfolding geometry_of when
returns c = search rules
