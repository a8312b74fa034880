-- `geometry::log_size::last_refusal` meets its contract: each call gives what its definition says; c21 is the place after refusal 21's call.
-- Assumes nothing.
use Rattle.geometry.specs.Log.{last_refusals}
use Rattle.geometry.proofs.log_size.last_refusal.Goals as goal

pub returns : goal.returns
unfolding last_refusals
returns c = rw (
  c.first.ensures,
  c.first-n-5.ensures,
  c.first-n-4.ensures,
  c.quotient-2.ensures,
  c.first-n-3.ensures,
  c.quotient.ensures,
  c.first-n-2.ensures,
  c.first-n.ensures,
  c.div_ceil.ensures,
)
