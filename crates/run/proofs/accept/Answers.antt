-- `run::accept` meets its contract.
-- Assumes nothing.
use Rattle.run.specs.Runs.{accepted}
use mathlib.Core.Path.{◌∙◌}
use Rattle.run.proofs.accept.Goals as goal

pub returns : goal.returns
unfolding accepted
returns c = c.run_of.ensures ∙ rw c.parse.ensures
