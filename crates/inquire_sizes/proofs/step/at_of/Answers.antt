-- `inquire_sizes::step::at_of` meets its contract.
-- Assumes nothing.
use Rattle.inquire_sizes.specs.Step.{groups_at, at_of}
use Rattle.inquire_sizes.proofs.step.at_of.Goals as goal

pub returns : goal.returns
unfolding groups_at at_of
returns c = rw (c.log_at-log.ensures, c.trimmed-groups.ensures, c.groups_with-asked.ensures, c.unwrap_or.ensures)
