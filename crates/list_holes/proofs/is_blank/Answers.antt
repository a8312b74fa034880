-- `list_holes::is_blank` meets its contract.
-- Assumes nothing.
use Rattle.std.proofs.Common.{rules}
use Rattle.list_holes.proofs.Blank.{blank-by}
use Rattle.list_holes.proofs.is_blank.Goals as goal

pub returns : goal.returns
returns c = blank-by _ _ (search rules)
