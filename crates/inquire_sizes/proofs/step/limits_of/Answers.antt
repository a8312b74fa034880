-- `inquire_sizes::step::limits_of` meets its contract.
-- Assumes nothing.
use Rattle.inquire_sizes.specs.Step.{limits_of}
use Rattle.inquire_sizes.proofs.step.limits_of.Goals as goal

pub returns : goal.returns
unfolding limits_of
returns c = rw (c.quotient-7.ensures, c.quotient-6.ensures, c.quotient-5.ensures, c.quotient-4.ensures, c.quotient-3.ensures, c.quotient-2.ensures, c.quotient.ensures, c.min_group.ensures)
