-- `reader_pass::place_byte` meets its contract.
-- Assumes nothing.
use Rattle.reader_pass.specs.Passing.{place_byte}
use Rattle.reader_pass.proofs.place_byte.Goals as goal

pub returns : goal.returns
unfolding place_byte
returns c = rw (c.byte_in.ensures, c.agb_to_byte-place.ensures)
