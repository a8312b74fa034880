-- `inquire_sizes::step::disk_refusal` meets its contract.
-- Assumes nothing.
use Rattle.std.proofs.Common.{rules}
use Rattle.inquire_sizes.specs.Step.{disk_refusals}
use Rattle.inquire_sizes.proofs.step.disk_refusal.Goals as goal

pub returns : goal.returns
unfolding disk_refusals
returns c = search rules
