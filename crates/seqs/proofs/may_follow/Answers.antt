-- `seqs::may_follow` meets its contract.
-- Assumes nothing.
use borrow.Author.Tests.{le-leb, lt-leb, lt-ltb, le-ltb}
use Rattle.seqs.proofs.may_follow.Goals as goal

pub returns-then-count-gt0 : goal.returns-then-count-gt0
returns-then-count-gt0 c = simp (le-leb _ _ c.if-lo-start.true, lt-ltb _ _ c.if-count-gt0.true, c.end_of.ensures)

pub returns-then-lo-start : goal.returns-then-lo-start
returns-then-lo-start c = simp (le-leb _ _ c.if-lo-start.true, le-ltb _ _ c.if-count-gt0.false)

pub returns : goal.returns
returns c = simp (lt-leb _ _ c.if-lo-start.false)
