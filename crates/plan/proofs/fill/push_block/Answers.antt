-- `plan::fill::push_block` meets its contract.
-- Assumes nothing.
use Rattle.seqs.specs.Lists.{pushed}
use borrow.Author.Tests.{lt-ltb, le-ltb}
use Rattle.plan.proofs.fill.push_block.Goals as goal

pub returns-then-l-lt64 : goal.returns-then-l-lt64
unfolding pushed
returns-then-l-lt64 c = simp (lt-ltb _ _ c.if-l-lt64.true)

pub returns-else-l-lt64 : goal.returns-else-l-lt64
unfolding pushed
returns-else-l-lt64 c = simp (le-ltb _ _ c.if-l-lt64.false)
