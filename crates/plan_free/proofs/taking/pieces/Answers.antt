-- `plan_free::taking::pieces` meets its contract.
-- Assumes nothing.
use borrow.Author.Tests.{lt-ltb, le-ltb}
use Rattle.plan_free.specs.Free.{without_run}
use Rattle.plan_free.proofs.taking.pieces.Goals as goal

pub returns-then-e-re : goal.returns-then-e-re
unfolding without_run
returns-then-e-re c = simp (lt-ltb _ _ c.if-r-s.true, lt-ltb _ _ (rw c.end_of-re.ensures at c.if-e-re.true))

pub returns-else-e-re : goal.returns-else-e-re
unfolding without_run
returns-else-e-re c = simp (lt-ltb _ _ c.if-r-s.true, le-ltb _ _ (rw c.end_of-re.ensures at c.if-e-re.false))

pub returns-then-e-re-2 : goal.returns-then-e-re-2
unfolding without_run
returns-then-e-re-2 c = simp (le-ltb _ _ c.if-r-s.false, lt-ltb _ _ (rw c.end_of-re.ensures at c.if-e-re-2.true))

pub returns-else-e-re-2 : goal.returns-else-e-re-2
unfolding without_run
returns-else-e-re-2 c = simp (le-ltb _ _ c.if-r-s.false, le-ltb _ _ (rw c.end_of-re.ensures at c.if-e-re-2.false))
