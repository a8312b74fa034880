-- `inquire_sizes::step::late_number` meets its contract.
-- Assumes nothing.
use Rattle.inquire_sizes.specs.Step.{late_number}
use Rattle.inquire_sizes.proofs.step.late_number.Goals as goal

pub returns : goal.returns
unfolding late_number
returns c = rw (c.first.ensures, c.first-n.ensures, c.imaxpct_of-percent.ensures)
