-- `inquire_sizes::step::log_at` meets its contract.
-- Assumes nothing.
use Rattle.std.proofs.Common.{rules}
use Rattle.inquire_sizes.specs.Step.{log_at}
use Rattle.inquire_sizes.proofs.step.log_at.Goals as goal

pub returns : goal.returns
unfolding log_at
returns c = search rules
