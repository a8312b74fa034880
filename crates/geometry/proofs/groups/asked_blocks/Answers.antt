-- `geometry::groups::asked_blocks` meets its contract: by the option's case, each call gives what its definition says.
-- Assumes nothing.
use Rattle.geometry.specs.Groups.{asked_blocks}
use Rattle.geometry.proofs.groups.asked_blocks.Goals as goal

pub returns-in-Some : goal.returns-in-Some
unfolding asked_blocks
returns-in-Some c = rw (c.quotient.ensures, c.in-Some.is)

pub returns-in-None : goal.returns-in-None
unfolding asked_blocks
returns-in-None c = rw (c.quotient-in-None.ensures, c.in-None.is)
