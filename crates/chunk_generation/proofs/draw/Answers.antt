-- `chunk_generation::draw` meets its contract.
-- Assumes nothing.
use Rattle.chunk_generation.proofs.Laws.{draw-is}
use Rattle.chunk_generation.proofs.draw.Goals as goal

pub returns : goal.returns
returns c = draw-is _ _ _ _ _ _ c.wrapping_add_u64-next.ensures.value c.mix.ensures c.mix-z.ensures c.fold.ensures c.low-value.ensures
