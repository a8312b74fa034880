-- `plan::fill::one_turn` meets its contract.
-- Assumes nothing.
use mathlib.Core.Path.{◌∙◌}
use mathlib.Core.Logic.{inl, inr}
use borrow.Author.Tests.{eq-eqb, ne_eqb, not-true, not-false}
use Rattle.plan.proofs.Laws.{min-is}
use Rattle.plan.specs.Plan.{list_turn}
use Rattle.plan.proofs.fill.one_turn.Goals as goal

pub returns-then-w-ne0 : goal.returns-then-w-ne0
unfolding list_turn
returns-then-w-ne0 c = elim c.then-w-ne0.either [ inl h ↦ rw (ne_eqb _ _ h) | inr p ↦ rw (eq-eqb _ _ p.0, eq-eqb _ _ p.1) ]

pub returns-then-not-c : goal.returns-then-not-c
unfolding list_turn
returns-then-not-c c = c.fail.ensures
    ∙ rw (eq-eqb _ _ c.if-w-ne0.false, ne_eqb _ _ c.if-w-eq0.false, ← c.pick-c.ensures, not-true c.pick-c.result.found c.if-not-c.true)

pub returns : goal.returns
unfolding list_turn
returns c = c.move_blocks.ensures
    ∙ rw (c.min.ensures, min-is, eq-eqb _ _ c.if-w-ne0.false, ne_eqb _ _ c.if-w-eq0.false, ← c.pick-c.ensures, not-false c.pick-c.result.found c.if-not-c.false)
