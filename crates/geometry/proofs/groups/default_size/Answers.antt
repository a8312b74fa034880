-- `geometry::groups::default_size` meets its contract.
-- Assumes nothing.
use Rattle.std.proofs.Common.{rules}
use Rattle.arith.specs.Choice.{when}
use Rattle.geometry.specs.Groups.{default_size}
use Rattle.geometry.proofs.groups.default_size.Goals as goal

pub returns-then-quotient-d : goal.returns-then-quotient-d
unfolding default_size when
returns-then-quotient-d c = search rules

pub returns : goal.returns
unfolding default_size when
returns c = search rules
