-- `reader_compare::heads::with_buffer` meets its contract.
-- Assumes nothing.
use mathlib.Core.Path.{◌∙◌}
use Rattle.reader_compare.proofs.Made.{head-compared}
use Rattle.reader_compare.proofs.heads.with_buffer.Goals as goal

pub returns : goal.returns
returns c = c.compare_head.ensures ∙ head-compared _ _ _ _ _ _ c.requires c.head_left.ensures.written
