-- `reader_pass::wants` meets its contract.
-- Assumes nothing.
use Rattle.reader_pass.specs.Passing.{pass_wanted}
use Rattle.reader_pass.proofs.wants.Goals as goal

pub returns : goal.returns
unfolding pass_wanted
returns c = rw (c.is_ended.ensures, c.length_of.ensures, c.offset_of.ensures)
