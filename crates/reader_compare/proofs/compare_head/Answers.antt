-- `reader_compare::compare_head` meets its contract.
-- Assumes nothing.
use mathlib.Core.Path.{refl, ◌∙◌}
use Rattle.head_bytes.specs.Head.{head_length}
use Rattle.reader_compare.specs.Places.{compared_number}
use Rattle.reader_compare.proofs.compare_head.Goals as goal

pub returns : goal.returns
unfolding compared_number head_length
returns c = c.place_number.ensures ∙ rw c.head_length-size.ensures refl
