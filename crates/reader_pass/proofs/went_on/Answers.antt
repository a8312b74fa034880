-- `reader_pass::went_on` meets its contract.
-- Assumes nothing.
use mathlib.Core.Path.{◌∙◌}
use Rattle.reader_pass.proofs.States.{stopped, went}
use Rattle.reader_pass.proofs.went_on.Goals as goal

pub returns-then-n-ne0 : goal.returns-then-n-ne0
returns-then-n-ne0 c = c.ended_by.ensures ∙ stopped _ _ _ _ _ c.if-n-ne0.true

pub returns : goal.returns
returns c = let a = c.args in went a.p a.n a.geometry a.uuid a.k _ c.if-n-ne0.false c.stage_at-stage.ensures
