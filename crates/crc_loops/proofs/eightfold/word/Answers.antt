-- `crc_loops::eightfold::word` meets its contract.
-- Assumes nothing.
use Rattle.endian_little.proofs.Laws.{le_four}
use Rattle.crc_loops.proofs.eightfold.word.Goals as goal

pub returns : goal.returns
returns c = le_four c.args.at _ _ _ _ c.args.s.now c.wide-a.ensures.0 c.wide-b.ensures.0 c.wide-c.ensures.0 c.wide-d.ensures.0
