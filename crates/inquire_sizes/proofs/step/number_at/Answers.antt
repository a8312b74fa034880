-- `inquire_sizes::step::number_at` meets its contract.
-- Assumes nothing.
use Rattle.inquire_sizes.specs.Step.{size_refusals, number_with, number_at}
use Rattle.inquire_sizes.proofs.step.number_at.Goals as goal

pub returns : goal.returns
unfolding size_refusals number_with number_at
returns c = rw (c.first.ensures, c.first-m.ensures, c.or_next-m-2.ensures, c.group_refusal.ensures, c.or_next-m.ensures, c.disk_refusal.ensures, c.at_of-c.ensures)
