-- `sb::log_start` meets its contract.
-- Assumes nothing.
use Rattle.geometry_layout.specs.Places.{fsb_of}
use borrow.Author.Rules.{rules}
use Rattle.sb.proofs.log_start.Goals as goal

pub returns : goal.returns
unfolding fsb_of
returns c = search rules
