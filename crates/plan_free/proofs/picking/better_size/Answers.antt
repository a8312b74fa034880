-- `plan_free::picking::better_size` meets its contract.
-- Assumes nothing.
use Rattle.plan_free.specs.Free.{bigger}
use Rattle.plan_free.proofs.picking.better_size.Goals as goal

pub returns : goal.returns
unfolding bigger
returns c = rw (c.keep.ensures, c.is_ahead-wins.ensures)
