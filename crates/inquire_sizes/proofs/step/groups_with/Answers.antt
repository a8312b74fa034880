-- `inquire_sizes::step::groups_with` meets its contract.
-- Assumes nothing.
use Rattle.std.proofs.Common.{rules}
use Rattle.inquire_sizes.specs.Step.{groups_with}
use Rattle.inquire_sizes.proofs.step.groups_with.Goals as goal

pub returns-in-Some-default : goal.returns-in-Some-default
unfolding groups_with
returns-in-Some-default c = search rules

pub returns-in-None-Some : goal.returns-in-None-Some
unfolding groups_with
returns-in-None-Some c = search rules

pub returns-in-None-None : goal.returns-in-None-None
unfolding groups_with
returns-in-None-None c = search rules
