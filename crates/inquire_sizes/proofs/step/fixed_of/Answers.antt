-- `inquire_sizes::step::fixed_of` meets its contract.
-- Assumes nothing.
use Rattle.inquire_sizes.specs.Step.{fixed_with, fixed_of}
use Rattle.inquire_sizes.proofs.step.fixed_of.Goals as goal

pub returns : goal.returns
unfolding fixed_with fixed_of
returns c = rw (c.late_number.ensures, c.early_number.ensures, c.limits_of.ensures, c.prealloc_of.ensures, c.in_blocks-2.ensures, c.in_blocks.ensures, c.chosen_sizes-s.ensures)
