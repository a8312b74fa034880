-- `structs::sizes::any3` meets its contract.
-- Assumes nothing.
use Rattle.structs.proofs.sizes.any3.Goals as goal

pub returns : goal.returns
returns c = cc
