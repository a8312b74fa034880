-- `geometry::sizes::sizes_refusal` meets its contract: each call gives what its definition says.
-- Assumes nothing.
use Rattle.geometry.specs.Sizes.{sizes_refusals}
use Rattle.geometry.proofs.sizes.sizes_refusal.Goals as goal

pub returns : goal.returns
unfolding sizes_refusals
returns c = rw (
  c.first.ensures,
  c.pow2_log-3.ensures,
  c.first-n-9.ensures,
  c.first-n-8.ensures,
  c.first-n-7.ensures,
  c.pow2_log-2.ensures,
  c.first-n-6.ensures,
  c.first-n-5.ensures,
  c.first-n-4.ensures,
  c.first-n-3.ensures,
  c.pow2_log.ensures,
  c.first-n-2.ensures,
  c.first-n.ensures,
)
