-- `head_leaves::chunk_leaf` meets its contract.
-- Assumes nothing.
use native.Mathlib.Omega.{arith}
use Rattle.arith.proofs.Laws.{bit_le}
use Rattle.head_leaves.proofs.chunk_leaf.Goals as goal

pub put_chunk-requires : goal.put_chunk-requires
put_chunk-requires c = (omega (arith, c.bit_of-n.ensures, bit_le c.args.there), c.record_buffer-work.ensures)

pub returns : goal.returns
returns c = rw (← c.bit_of-n.ensures) c.put_chunk.ensures
