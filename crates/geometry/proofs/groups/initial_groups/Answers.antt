-- `geometry::groups::initial_groups` meets its contract.
-- Assumes nothing.
use Rattle.std.proofs.Common.{rules}
use Rattle.geometry.specs.Groups.{initial_groups}
use Rattle.geometry.proofs.groups.initial_groups.Goals as goal

pub returns-in-Some-default : goal.returns-in-Some-default
unfolding initial_groups
returns-in-Some-default c = search rules

pub returns-in-None-Some : goal.returns-in-None-Some
unfolding initial_groups
returns-in-None-Some c = search rules

pub returns-in-None-None : goal.returns-in-None-None
unfolding initial_groups
returns-in-None-None c = search rules
