-- `inquire_sizes::step::in_blocks` meets its contract.
-- Assumes nothing.
use Rattle.std.proofs.Common.{rules}
use Rattle.inquire_sizes.specs.Step.{in_blocks}
use Rattle.inquire_sizes.proofs.step.in_blocks.Goals as goal

pub returns : goal.returns
unfolding in_blocks
returns c = search rules
