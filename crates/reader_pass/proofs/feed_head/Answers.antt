-- `reader_pass::feed_head` meets its contract.
-- Assumes nothing.
use mathlib.Core.Path.{◌∙◌}
use Rattle.reader_pass.proofs.States.{head-is}
use Rattle.reader_pass.proofs.feed_head.Goals as goal

pub returns : goal.returns
returns c = (c.went_on.ensures ∙ head-is _ _ _ _ c.group_number_in-n.ensures.0 c.following_of-next.ensures, c.group_number_in-n.ensures.1)
