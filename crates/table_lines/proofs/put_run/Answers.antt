-- `table_lines::put_run` meets its contract.
-- Assumes nothing.
use Rattle.table_lines.specs.Lines.{run_line}
use Rattle.table_lines.proofs.put_run.Goals as goal

pub returns-then-held : goal.returns-then-held
unfolding run_line
returns-then-held c = rw c.if-held.true c.put_words.ensures

pub returns : goal.returns
unfolding run_line
returns c = rw c.if-held.false c.put_words-2.ensures
