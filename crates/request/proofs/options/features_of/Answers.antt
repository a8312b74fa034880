-- `request::options::features_of` meets its contract.
-- Assumes nothing.
use Rattle.request.proofs.options.features_of.Goals as goal

pub returns-in-Some : goal.returns-in-Some
returns-in-Some c = cc
