-- `inquire_sizes::no_range` meets its contract.
-- Assumes nothing.
use Rattle.std.proofs.Common.{rules}
use Rattle.inquire_sizes.specs.Ranges.{no_range}
use Rattle.inquire_sizes.proofs.no_range.Goals as goal

pub returns-then-to-from : goal.returns-then-to-from
unfolding no_range
returns-then-to-from c = search rules

pub returns-else-to-from : goal.returns-else-to-from
unfolding no_range
returns-else-to-from c = search rules
