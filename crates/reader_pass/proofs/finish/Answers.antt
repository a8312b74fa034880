-- `reader_pass::finish` meets its contract.
-- Assumes nothing.
use mathlib.Core.Path.{sym, ◌∙◌}
use Rattle.reader_pass.proofs.States.{over, missing}
use Rattle.reader_pass.proofs.finish.Goals as goal

pub returns-then-is_ended : goal.returns-then-is_ended
returns-then-is_ended c = over c.args.p (sym c.if-is_ended.true ∙ c.is_ended.ensures)

pub returns : goal.returns
returns c = missing c.args.p (sym c.if-is_ended.false ∙ c.is_ended.ensures)
