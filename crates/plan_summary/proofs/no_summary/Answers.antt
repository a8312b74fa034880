-- `plan_summary::no_summary` meets its contract.
-- Assumes nothing.
use mathlib.Core.Path.{refl}
use Rattle.plan_summary.proofs.no_summary.Goals as goal

pub returns : goal.returns
returns c = refl
