-- `geometry::sizes::chosen_sizes` meets its contract.
-- Assumes nothing.
use Rattle.geometry.specs.Sizes.{sizes_of}
use Rattle.geometry.proofs.sizes.chosen_sizes.Goals as goal

pub returns : goal.returns
unfolding sizes_of
returns c = rw (c.inode_of.ensures, c.sector_of.ensures, c.max-least.ensures, c.block_of-block.ensures)
