-- `plan_holds::states::hold_next` meets its contract.
-- Assumes nothing.
use mathlib.Core.Path.{◌∙◌}
use borrow.Author.Tests.{eq-eqb, ne_eqb}
use Rattle.plan_holds.specs.Holding.{held_next}
use Rattle.plan_holds.proofs.states.hold_next.Goals as goal

pub returns-then-t-eq0 : goal.returns-then-t-eq0
unfolding held_next
returns-then-t-eq0 c = c.hold_in.ensures ∙ rw (eq-eqb _ _ c.if-t-eq0.true)

pub returns : goal.returns
unfolding held_next
returns c = rw (ne_eqb _ _ c.if-t-eq0.false)
