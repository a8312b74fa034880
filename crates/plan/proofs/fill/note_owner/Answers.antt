-- `plan::fill::note_owner` meets its contract.
-- Assumes nothing.
use mathlib.Core.Path.{◌∙◌}
use Rattle.plan.proofs.fill.note_owner.Goals as goal

pub returns-then-on : goal.returns-then-on
returns-then-on c = c.rmap_insert.ensures ∙ rw c.if-on.true

pub returns : goal.returns
returns c = rw c.if-on.false
