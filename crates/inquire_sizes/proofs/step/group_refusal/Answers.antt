-- `inquire_sizes::step::group_refusal` meets its contract.
-- Assumes nothing.
use Rattle.std.proofs.Common.{rules}
use Rattle.inquire_sizes.specs.Step.{group_refusals}
use Rattle.inquire_sizes.proofs.step.group_refusal.Goals as goal

pub returns : goal.returns
unfolding group_refusals
returns c = search rules
