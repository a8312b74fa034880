-- `head::sectors::put_sectors` meets its contract.
-- Assumes nothing.
use Rattle.head_bytes.specs.Parts.{sectors_on}
use Rattle.head_bytes.specs.Head.{agf_for}
use Rattle.head.proofs.sectors.put_sectors.Goals as goal

pub returns : goal.returns
unfolding sectors_on agf_for
returns c = let t = c.requires.3 in rw (c.put_agfl.ensures, c.put_agi.ensures, c.put_agf.ensures, c.agf_of.ensures, c.agi_of.ensures, t.blocks, t.longest, t.list)
