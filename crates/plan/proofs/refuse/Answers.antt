-- `plan::refuse` meets its contract.
-- Assumes nothing.
use Rattle.plan.proofs.refuse.Goals as goal

pub returns : goal.returns
returns c = rw (c.empty-free.ensures, c.no_blocks-agfl.ensures, c.empty-rmap.ensures)
