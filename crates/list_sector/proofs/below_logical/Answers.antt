-- `list_sector::below_logical` meets its contract.
-- Assumes nothing.
use Rattle.list_sector.proofs.Laws.{compared}
use Rattle.list_sector.proofs.below_logical.Goals as goal

pub returns : goal.returns
returns c = compared _ _ _ c.sector_in.ensures
