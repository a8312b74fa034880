-- `plan_holds::states::is_state` meets its contract.
-- Assumes nothing.
use borrow.Author.Tests.{le-leb, lt-leb, eq-eqb, ne_eqb}
use Rattle.plan_holds.specs.Holding.{is_state}
use Rattle.plan_holds.proofs.states.is_state.Goals as goal

pub returns-then-held-gt8 : goal.returns-then-held-gt8
unfolding is_state
returns-then-held-gt8 c = simp (lt-leb _ 8 c.if-held-gt8.true)

pub returns-then-t-eq0 : goal.returns-then-t-eq0
unfolding is_state
returns-then-t-eq0 c = rw (le-leb _ 8 c.if-held-gt8.false, ← c.replay-t.ensures, eq-eqb _ _ c.if-t-eq0.true) c.same_state.ensures

pub returns-else-t-eq0 : goal.returns-else-t-eq0
unfolding is_state
returns-else-t-eq0 c = rw (le-leb _ 8 c.if-held-gt8.false, ← c.replay-t.ensures, ne_eqb _ _ c.if-t-eq0.false)
