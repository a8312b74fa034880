-- `request::defaults::seed_or_zero` meets its contract.
-- Assumes nothing.
use Rattle.request.specs.Defaults.{seed_of}
use Rattle.request.proofs.defaults.seed_or_zero.Goals as goal

pub returns : goal.returns
unfolding seed_of
returns c = c.unwrap_or.ensures
