-- `plan_free::picking::better_fit` meets its contract.
-- Assumes nothing.
use Rattle.plan_free.specs.Free.{fitter}
use Rattle.plan_free.proofs.picking.better_fit.Goals as goal

pub returns : goal.returns
unfolding fitter
returns c = rw (c.keep.ensures, c.is_ahead-wins.ensures)
