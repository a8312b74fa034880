-- `table_lines::put_header` meets its contract.
-- Assumes nothing.
use Rattle.table_lines.specs.Lines.{header_bytes}
use Rattle.table_lines.proofs.put_header.Goals as goal

pub returns : goal.returns
unfolding header_bytes
returns c = c.put_text.ensures
