-- `structs::sizes::is_block` meets its contract.
-- Assumes nothing.
use Rattle.structs.specs.Sizes.{is_block}
use Rattle.structs.proofs.sizes.is_block.Goals as goal

pub returns : goal.returns
unfolding is_block
returns c = cc
