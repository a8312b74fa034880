-- `plan_holds::states::refused` meets its contract.
-- Assumes nothing.
use Rattle.plan_holds.proofs.states.refused.Goals as goal

pub returns : goal.returns
returns c = rw (c.empty-free.ensures, c.no_runs-held.ensures)
