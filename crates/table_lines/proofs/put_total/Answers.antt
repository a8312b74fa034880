-- `table_lines::put_total` meets its contract.
-- Assumes nothing.
use Rattle.table_lines.specs.Lines.{total_bytes}
use Rattle.table_lines.proofs.put_total.Goals as goal

pub returns : goal.returns
unfolding total_bytes
returns c = c.put_words.ensures
