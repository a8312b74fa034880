-- `request_input::whole_record` meets its contract.
-- Assumes nothing.
use mathlib.Core.Path.{◌∙◌}
use native.Mathlib.Omega.{arith}
use Rattle.request_input.proofs.Marks.{cut, held}
use Rattle.request_input.proofs.whole_record.Goals as goal

pub returns-then-len-at : goal.returns-then-len-at
returns-then-len-at c = c.no_record.ensures ∙ cut _ _ _ _ (omega arith)

pub returns : goal.returns
returns c = held _ _ _ _ (omega arith)
