-- `reader_pass::feed_first` meets its contract.
-- Assumes nothing.
use mathlib.Core.Path.{◌∙◌}
use Rattle.reader_pass.proofs.States.{first-is}
use Rattle.reader_pass.proofs.feed_first.Goals as goal

pub returns : goal.returns
returns c = c.went_on.ensures ∙ first-is _ _ _ c.read_group0-found.ensures
