-- `inquire_sizes::step::early_number` meets its contract.
-- Assumes nothing.
use Rattle.inquire_sizes.specs.Step.{early_number}
use Rattle.inquire_sizes.proofs.step.early_number.Goals as goal

pub returns : goal.returns
unfolding early_number
returns c = rw (c.options_refusal.ensures, c.min_group-least.ensures)
