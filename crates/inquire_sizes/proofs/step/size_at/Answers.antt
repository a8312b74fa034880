-- `inquire_sizes::step::size_at` meets its contract.
-- Assumes nothing.
use Rattle.std.proofs.Common.{rules}
use Rattle.arith.specs.Choice.{when}
use Rattle.inquire_sizes.specs.Step.{default_group_size}
use Rattle.inquire_sizes.proofs.step.size_at.Goals as goal

pub returns-then-l-d : goal.returns-then-l-d
unfolding default_group_size when
returns-then-l-d c = search rules

pub returns : goal.returns
unfolding default_group_size when
returns c = search rules
