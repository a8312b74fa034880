-- `head::roots::put_roots` meets its contract.
-- Assumes nothing.
use Rattle.head_bytes.specs.Parts.{roots_on}
use Rattle.head_bytes.specs.Head.{bno_root, cnt_root}
use Rattle.geometry_layout.specs.Places.{cnt_block, ibt_block}
use Rattle.head.proofs.roots.put_roots.Goals as goal

pub returns : goal.returns
unfolding roots_on bno_root cnt_root cnt_block ibt_block
returns c = rw (c.put_chunk.ensures, c.put_free-2.ensures, c.put_free.ensures, c.by_size-sorted.ensures.1, c.by_size-sorted.ensures.0)
