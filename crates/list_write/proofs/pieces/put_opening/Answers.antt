-- `list_write::pieces::put_opening` meets its contract.
-- Assumes nothing.
use Rattle.list_write.proofs.PieceLaws.{opening-whole}
use native.Mathlib.Omega.{arith}
use Rattle.list_write.proofs.pieces.put_opening.Goals as goal

pub put_zeros-requires : goal.put_zeros-requires
put_zeros-requires c = omega (arith, c.requires, c.put_block.auto.buf)

pub returns : goal.returns
returns c = opening-whole c.args.bs c.args.device c.args.at c.args.n _ _ _ _ c.requires c.put_block.ensures c.put_zeros.ensures
