-- `structs::sizes::is_sector` meets its contract.
-- Assumes nothing.
use Rattle.structs.specs.Sizes.{is_sector}
use Rattle.structs.proofs.sizes.is_sector.Goals as goal

pub returns : goal.returns
unfolding is_sector
returns c = cc
