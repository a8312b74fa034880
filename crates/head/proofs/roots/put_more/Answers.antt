-- `head::roots::put_more` meets its contract.
-- Assumes nothing.
use Rattle.head_bytes.proofs.Whole.{block_room, fibt-inside, rmap-inside, refc-inside}
use Rattle.head_bytes.specs.Parts.{more_on}
use Rattle.head_bytes.specs.Head.{frame_blocks}
use Rattle.endian.proofs.Laws.{kept}
use mathlib.Core.Path.{◌∙◌}
use Rattle.head.proofs.roots.put_more.Goals as goal

pub put_fibt-requires : goal.put_fibt-requires
put_fibt-requires c = let w = c.args.w in (c.requires.0, λ e. block_room _ (frame_blocks w) w.block _ (fibt-inside w e) c.requires.2)

pub put_rmap-requires : goal.put_rmap-requires
put_rmap-requires c = let w = c.args.w in (c.requires.0, c.requires.1.rmap-most, λ e. block_room _ (frame_blocks w) w.block _ (rmap-inside w e) (kept c.put_fibt.auto.buf c.requires.2))

pub put_refc-requires : goal.put_refc-requires
put_refc-requires c = let w = c.args.w in (c.requires.0, λ e. block_room _ (frame_blocks w) w.block _ (refc-inside w e) (kept (c.put_rmap.auto.buf ∙ c.put_fibt.auto.buf) c.requires.2))

pub returns : goal.returns
unfolding more_on
returns c = rw (c.put_refc.ensures, c.put_rmap.ensures, c.put_fibt.ensures)
