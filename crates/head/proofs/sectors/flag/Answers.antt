-- `head::sectors::flag` meets its contract.
-- Assumes nothing.
use Rattle.arith.specs.Choice.{bit}
use native.Mathlib.Omega.{arith}
use Rattle.head.proofs.sectors.flag.Goals as goal

pub returns-then-on : goal.returns-then-on
unfolding bit
returns-then-on c = (rw c.if-on.true, omega arith)

pub returns-else-on : goal.returns-else-on
unfolding bit
returns-else-on c = (rw c.if-on.false, omega arith)
