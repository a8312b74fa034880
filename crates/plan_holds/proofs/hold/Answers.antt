-- `plan_holds::hold` meets its contract.
-- Assumes nothing.
use mathlib.Core.Path.{◌∙◌, sym}
use Rattle.plan_holds.specs.Holding.{hold_def}
use Rattle.plan_holds.proofs.hold.Goals as goal

pub returns-then-is_state : goal.returns-then-is_state
unfolding hold_def
returns-then-is_state c = c.hold_in.ensures ∙ rw (sym c.is_state.ensures ∙ c.if-is_state.true)

pub returns : goal.returns
unfolding hold_def
returns c = c.refused.ensures ∙ rw (sym c.is_state.ensures ∙ c.if-is_state.false)
