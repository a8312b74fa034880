-- `request::defaults::uuid_or_zeros` meets its contract.
-- Assumes nothing.
use Rattle.request.specs.Defaults.{uuid_of}
use Rattle.request.proofs.defaults.uuid_or_zeros.Goals as goal

pub returns : goal.returns
unfolding uuid_of
returns c = c.unwrap_or.ensures
