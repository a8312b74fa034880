-- `list_read::next` meets its contract.
-- Assumes nothing.
use Rattle.list_read.proofs.Ending.{none-behind, one_more, as_many}
use native.Mathlib.Omega.{arith}
use Rattle.list_read.proofs.next.Goals as goal

pub returns-then-kind-eq-FLUSH : goal.returns-then-kind-eq-FLUSH
returns-then-kind-eq-FLUSH c = one_more _ _ (omega arith) c.if-kind-eq-FLUSH.true

pub returns-then-flushes-lt-FLUSHES : goal.returns-then-flushes-lt-FLUSHES
returns-then-flushes-lt-FLUSHES c = as_many _ _ (omega arith) c.if-kind-eq-FLUSH.false

pub returns : goal.returns
returns c = none-behind _ _ (omega arith)
