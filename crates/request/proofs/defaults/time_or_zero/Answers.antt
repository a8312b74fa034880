-- `request::defaults::time_or_zero` meets its contract.
-- Assumes nothing.
use Rattle.request.specs.Defaults.{time_of}
use Rattle.request.proofs.defaults.time_or_zero.Goals as goal

pub returns : goal.returns
unfolding time_of
returns c = c.unwrap_or.ensures
