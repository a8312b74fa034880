-- `request::malformed` meets its contract.
-- Assumes nothing.
use Rattle.request.proofs.malformed.Goals as goal

pub returns : goal.returns
returns c = cc
