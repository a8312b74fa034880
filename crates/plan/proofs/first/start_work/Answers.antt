-- `plan::first::start_work` meets its contract.
-- Assumes nothing.
use Rattle.plan.specs.Plan.{at_first}
use Rattle.plan.proofs.first.start_work.Goals as goal

pub returns : goal.returns
unfolding at_first
returns c = rw (c.first_free-free.ensures, c.no_blocks-agfl.ensures, c.first_rmap-rmap.ensures)
