-- `table_lines::put_refused` meets its contract.
-- Assumes nothing.
use Rattle.table_lines.specs.Lines.{refused_bytes}
use Rattle.table_lines.proofs.put_refused.Goals as goal

pub returns : goal.returns
unfolding refused_bytes
returns c = c.put_words.ensures
