-- `inquire_sizes::options_number` meets its contract.
-- Assumes nothing.
use Rattle.std.proofs.Common.{rules}
use Rattle.inquire_sizes.specs.Ranges.{options_number}
use Rattle.inquire_sizes.proofs.options_number.Goals as goal

pub returns : goal.returns
unfolding options_number
returns c = search rules
