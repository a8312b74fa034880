-- `crc_loops::eightfold::fold` meets its contract.
-- Assumes nothing.
use Rattle.crc_register.proofs.Words.{fold-four}
use native.Mathlib.Omega.{arith}
use Rattle.crc_loops.proofs.eightfold.fold.Goals as goal

pub look-d-requires : goal.look-d-requires
look-d-requires c = (c.requires.0, (omega arith, omega arith))

pub returns : goal.returns
returns c = fold-four c.args.j c.args.x _ _ _ _ c.look-a.ensures c.look-b.ensures c.look-c.ensures c.look-d.ensures
