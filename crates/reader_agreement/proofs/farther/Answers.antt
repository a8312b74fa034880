-- `reader_agreement::farther` meets its contract.
-- Assumes nothing.
use native.Mathlib.Omega.{arith}
use borrow.Author.Tests.{not-true, not-false}
use Rattle.reader_agreement.proofs.Laws.{second-only, first-farther, second-farther}
use Rattle.reader_agreement.proofs.farther.Goals as goal

pub returns-then-not-a : goal.returns-then-not-a
returns-then-not-a c = second-only _ _ (not-true _ c.if-not-a.true)

pub returns-then-b-a : goal.returns-then-b-a
returns-then-b-a c = first-farther _ _ (not-false _ c.if-not-a.false) (omega arith)

pub returns : goal.returns
returns c = second-farther _ _ (not-false _ c.if-not-a.false) (omega arith)
