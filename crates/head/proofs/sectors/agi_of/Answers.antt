-- `head::sectors::agi_of` meets its contract.
-- Assumes nothing.
use Rattle.head_bytes.specs.Head.{agi_for}
use Rattle.geometry_layout.specs.Places.{ibt_block, fibt_block}
use Rattle.head.proofs.sectors.agi_of.Goals as goal

pub returns : goal.returns
unfolding agi_for ibt_block fibt_block
returns c = rw (c.pick-4.ensures, c.flag.ensures.0, c.pick-3.ensures, c.pick-2.ensures, c.pick.ensures, c.flag-free.ensures.0)
