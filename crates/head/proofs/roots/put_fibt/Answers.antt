-- `head::roots::put_fibt` meets its contract.
-- Assumes nothing.
use Rattle.head_bytes.proofs.Whole.{block_on, block-off}
use Rattle.geometry_layout.specs.Places.{fibt_block}
use native.Mathlib.Omega.{arith}
use Rattle.head.proofs.roots.put_fibt.Goals as goal

pub put_chunk-requires : goal.put_chunk-requires
unfolding fibt_block
put_chunk-requires c = (c.requires.0, omega (arith, c.requires.0.header-most), c.requires.1 c.if-f.true)

pub returns-then-f : goal.returns-then-f
unfolding fibt_block
returns-then-f c = block_on _ _ _ _ _ c.if-f.true c.put_chunk.ensures

pub returns-else-f : goal.returns-else-f
returns-else-f c = block-off _ _ _ _ c.if-f.false
