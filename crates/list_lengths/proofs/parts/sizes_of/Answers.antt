-- `list_lengths::parts::sizes_of` meets its contract.
-- Assumes nothing.
use mathlib.Core.Path.{refl}
use Rattle.list_lengths.proofs.parts.sizes_of.Goals as goal

pub returns : goal.returns
returns c = rw (c.header_of-header.ensures, c.prealloc_of-head.ensures, c.chunk_of-chunk.ensures) refl
