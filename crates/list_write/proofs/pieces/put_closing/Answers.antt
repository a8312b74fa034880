-- `list_write::pieces::put_closing` meets its contract.
-- Assumes nothing.
use Rattle.list_lengths.specs.Lengths.{blocks_length}
use Rattle.list_write.proofs.PieceLaws.{closing-whole}
use mathlib.Core.Path.{refl}
use native.Mathlib.Omega.{arith}
use Rattle.list_write.proofs.pieces.put_closing.Goals as goal

pub overflow_sub-end : goal.overflow_sub-end
overflow_sub-end c = omega (arith, c.requires.3)

pub put_blocks-requires : goal.put_blocks-requires
unfolding blocks_length
put_blocks-requires c = let p = c.requires in
    (omega (arith, p.1), p.0, omega (arith, p.2), omega (arith, p.3, c.put16.auto.buf))

pub returns : goal.returns
returns c = closing-whole c.args.bs c.args.n _ _ _ _ _ _ refl c.requires.2 c.requires.3 c.put16.ensures c.put_blocks.ensures c.put16-2.ensures
