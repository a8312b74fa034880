-- `request_input::option_record` meets its contract.
-- Assumes nothing.
use mathlib.Core.Path.{◌∙◌}
use native.Mathlib.Omega.{arith}
use Rattle.endian.proofs.Laws.{got_in}
use Rattle.request_input.proofs.Marks.{cut, option-held}
use Rattle.request_input.proofs.option_record.Goals as goal

pub returns-then-input-at-lt11 : goal.returns-then-input-at-lt11
returns-then-input-at-lt11 c = c.no_record.ensures ∙ cut _ _ _ _ (omega arith)

pub returns : goal.returns
returns c = option-held _ _ _ _ (omega arith) c.from.ensures (got_in c.be64.ensures (omega arith))
