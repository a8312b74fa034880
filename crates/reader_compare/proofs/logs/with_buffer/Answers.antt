-- `reader_compare::logs::with_buffer` meets its contract.
-- Assumes nothing.
use mathlib.Core.Path.{◌∙◌}
use Rattle.reader_compare.proofs.Made.{log-compared}
use Rattle.reader_compare.proofs.logs.with_buffer.Goals as goal

pub returns : goal.returns
returns c = c.place_number.ensures ∙ log-compared _ _ _ _ _ c.requires c.log_block.ensures
