-- `run::refused` meets its contract.
-- Assumes nothing.
use Rattle.run.proofs.refused.Goals as goal

pub returns : goal.returns
returns c = rw c.zero-geometry.ensures
