-- `arith::choice::pick` meets its contract.
-- Assumes nothing.
use Rattle.arith.specs.Choice.{when}
use Rattle.arith.proofs.choice.pick.Goals as goal

pub returns-then-test : goal.returns-then-test
unfolding when
returns-then-test g c = rw c.if-test.true

pub returns-else-test : goal.returns-else-test
unfolding when
returns-else-test g c = rw c.if-test.false
