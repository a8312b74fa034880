-- `table_lines::put_row` meets its contract.
-- Assumes nothing.
use Rattle.table_lines.specs.Lines.{row_bytes}
use Rattle.table_lines.proofs.put_row.Goals as goal

pub returns : goal.returns
unfolding row_bytes
returns c = c.put_line.ensures
