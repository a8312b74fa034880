-- `reader_pass::feed_log` meets its contract.
-- Assumes nothing.
use mathlib.Core.Path.{◌∙◌}
use Rattle.reader_pass.proofs.States.{log_is}
use Rattle.reader_pass.proofs.feed_log.Goals as goal

pub returns : goal.returns
returns c = c.ended_by.ensures ∙ log_is _ _ _ c.read_log-n.ensures
