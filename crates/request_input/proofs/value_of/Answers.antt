-- `request_input::value_of` meets its contract. Invariant: the value is what the records from `at` on give.
-- Assumes nothing.
use mathlib.Core.Path.{refl, sym, ◌∙◌}
use native.Mathlib.Omega.{arith}
use Rattle.request_input.proofs.Splitting.{lookup-here, lookup-later, lookup-end}
use Rattle.request_input.proofs.value_of.Goals as goal

pub loop-at-init : goal.loop-at-init
loop-at-init c = refl

pub returns-then-r-key : goal.returns-then-r-key
returns-then-r-key c = sym (c.loop-at.invariant ∙ lookup-here _ _ _ c.record_at-r.ensures.0 c.loop-at-test.true _ c.if-r-key.true)

pub loop-at-preserved : goal.loop-at-preserved
loop-at-preserved c = c.loop-at.invariant ∙ lookup-later _ _ _ c.record_at-r.ensures.0 c.loop-at-test.true _ c.if-r-key.false

pub returns : goal.returns
returns c = sym (c.loop-at.invariant ∙ lookup-end _ _ _ (omega arith))
