-- `params::Params::new` meets its contract: each option is absent.
-- Assumes nothing.
use Rattle.params.proofs.Params.new.Goals as goal

pub returns : goal.returns
returns c = cc
