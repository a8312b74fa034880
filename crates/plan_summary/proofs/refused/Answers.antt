-- `plan_summary::refused` meets its contract.
-- Assumes nothing.
use Rattle.plan_summary.proofs.refused.Goals as goal

pub returns : goal.returns
returns c = rw c.no_summary-summary.ensures
