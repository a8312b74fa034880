-- `list_read::ended` meets its contract.
-- Assumes nothing.
use Rattle.list_read.proofs.Ending.{whole-end, cut-end}
use native.Mathlib.Omega.{arith}
use Rattle.list_read.proofs.ended.Goals as goal

pub returns-then-flushes-eq-FLUSHES : goal.returns-then-flushes-eq-FLUSHES
returns-then-flushes-eq-FLUSHES c = whole-end _ (omega arith)

pub returns : goal.returns
returns c = cut-end _ (λ e. omega arith)
