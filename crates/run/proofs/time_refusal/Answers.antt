-- `run::time_refusal` meets its contract.
-- Assumes nothing.
use Rattle.run.specs.Runs.{time_refusal}
use Rattle.run.proofs.time_refusal.Goals as goal

pub returns : goal.returns
unfolding time_refusal
returns c = c.encode_time-stored.ensures.number_is
