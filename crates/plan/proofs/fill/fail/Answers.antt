-- `plan::fill::fail` meets its contract.
-- Assumes nothing.
use Rattle.plan.specs.Plan.{failed}
use mathlib.Core.Path.{refl}
use Rattle.plan.proofs.fill.fail.Goals as goal

pub returns : goal.returns
unfolding failed
returns c = refl
