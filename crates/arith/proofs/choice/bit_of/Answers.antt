-- `arith::choice::bit_of` meets its contract.
-- Assumes nothing.
use Rattle.arith.specs.Choice.{bit}
use Rattle.arith.proofs.choice.bit_of.Goals as goal

pub returns-then-b : goal.returns-then-b
unfolding bit
returns-then-b c = rw c.if-b.true

pub returns-else-b : goal.returns-else-b
unfolding bit
returns-else-b c = rw c.if-b.false
