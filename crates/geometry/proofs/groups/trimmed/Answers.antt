-- `geometry::groups::trimmed` meets its contract.
-- Assumes nothing.
use Rattle.std.proofs.Common.{rules}
use Rattle.arith.specs.Choice.{when}
use Rattle.geometry.specs.Groups.{trim}
use Rattle.geometry.proofs.groups.trimmed.Goals as goal

pub returns-then-is_short : goal.returns-then-is_short
unfolding trim when
returns-then-is_short c = search rules

pub returns : goal.returns
unfolding trim when
returns c = search rules
