-- `plan_rmap::list::push` meets its contract.
-- Assumes nothing.
use borrow.Author.Tests.{lt-ltb, le-ltb}
use Rattle.seqs.specs.Lists.{pushed}
use Rattle.plan_rmap.proofs.list.push.Goals as goal

pub returns-then-l-lt64 : goal.returns-then-l-lt64
unfolding pushed
returns-then-l-lt64 c = simp (lt-ltb _ _ c.if-l-lt64.true)

pub returns-else-l-lt64 : goal.returns-else-l-lt64
unfolding pushed
returns-else-l-lt64 c = simp (le-ltb _ _ c.if-l-lt64.false)
