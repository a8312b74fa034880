-- `reader_compare::logs::in_buffer` meets its contract.
-- Assumes nothing.
use mathlib.Core.Path.{sym}
use Rattle.reader_compare.proofs.Made.{buffer-for}
use Rattle.reader_compare.proofs.logs.in_buffer.Goals as goal

pub slice_bounds-with_buffer-end : goal.slice_bounds-with_buffer-end
slice_bounds-with_buffer-end c = sym (buffer-for c.args.block.now c.blank-work.result c.requires c.blank-work.ensures)

pub with_buffer-requires : goal.with_buffer-requires
with_buffer-requires c = buffer-for c.args.block.now c.blank-work.result c.requires c.blank-work.ensures
