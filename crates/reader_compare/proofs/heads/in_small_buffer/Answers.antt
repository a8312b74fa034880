-- `reader_compare::heads::in_small_buffer` meets its contract.
-- Assumes nothing.
use mathlib.Core.Path.{sym}
use Rattle.reader_compare.proofs.Made.{buffer-for}
use Rattle.reader_compare.proofs.heads.in_small_buffer.Goals as goal

pub slice_bounds-with_buffer-end : goal.slice_bounds-with_buffer-end
slice_bounds-with_buffer-end c = sym (buffer-for c.args.head.now c.small_buffer-work.result c.requires c.small_buffer-work.ensures)

pub with_buffer-requires : goal.with_buffer-requires
with_buffer-requires c = buffer-for c.args.head.now c.small_buffer-work.result c.requires c.small_buffer-work.ensures
