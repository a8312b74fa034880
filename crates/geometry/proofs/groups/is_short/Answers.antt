-- `geometry::groups::is_short` meets its contract.
-- Assumes nothing.
use Rattle.std.proofs.Common.{rules}
use Rattle.geometry.specs.Groups.{is_short}
use Rattle.geometry.proofs.groups.is_short.Goals as goal

pub returns-then-last-ne0 : goal.returns-then-last-ne0
unfolding is_short
returns-then-last-ne0 c = search rules

pub returns-else-last-ne0 : goal.returns-else-last-ne0
unfolding is_short
returns-else-last-ne0 c = search rules
