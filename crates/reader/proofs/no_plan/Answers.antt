-- `reader::no_plan` meets its contract.
-- Assumes nothing.
use Rattle.reader.proofs.no_plan.Goals as goal

pub returns : goal.returns
returns c = rw (c.empty-free.ensures, c.empty-rmap.ensures)
