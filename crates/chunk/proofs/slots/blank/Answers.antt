-- `chunk::slots::blank` meets its contract.
-- Assumes nothing.
use Rattle.chunk.proofs.Pieces.{blank-made}
use Rattle.chunk.proofs.slots.blank.Goals as goal

pub returns : goal.returns
returns c = blank-made _ _ _ c.requires c.put_same.ensures c.encode_free.ensures.written
