-- `reader_pass::feed_short` meets its contract.
-- Assumes nothing.
use mathlib.Core.Path.{sym, ◌∙◌}
use Rattle.reader_pass.proofs.States.{nothing-more, cut_short}
use Rattle.reader_pass.proofs.feed_short.Goals as goal

pub returns-then-is_ended : goal.returns-then-is_ended
returns-then-is_ended c = nothing-more _ _ (sym c.if-is_ended.true ∙ c.is_ended.ensures)

pub returns : goal.returns
returns c = c.ended_by.ensures ∙ cut_short _ _ (sym c.if-is_ended.false ∙ c.is_ended.ensures)
