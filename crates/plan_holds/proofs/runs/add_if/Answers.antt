-- `plan_holds::runs::add_if` meets its contract.
-- Assumes nothing.
use mathlib.Core.Logic.{inl, inr}
use borrow.Author.Tests.{lt-ltb, le-ltb}
use Rattle.plan_holds.specs.Adding.{added_if}
use Rattle.plan_holds.proofs.runs.add_if.Goals as goal

pub returns-then-l-lt8 : goal.returns-then-l-lt8
unfolding added_if
returns-then-l-lt8 c = simp (c.if-test.true, lt-ltb _ _ c.if-l-lt8.true)

pub returns-else-test : goal.returns-else-test
unfolding added_if
returns-else-test c = elim c.else-test.either [ inl h ↦ simp (h.0, le-ltb _ _ h.1) | inr e ↦ simp e ]
