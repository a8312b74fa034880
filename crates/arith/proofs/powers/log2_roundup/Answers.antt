-- `arith::powers::log2_roundup` meets its contract.
-- Assumes nothing.
use Rattle.arith.proofs.Loops.{least-is, least-none}
use Rattle.arith.proofs.powers.log2_roundup.Goals as goal

pub returns-in-Some : goal.returns-in-Some
returns-in-Some c = let e = c.in-Some.ensures in
    let i = c.ilog2.ensures in
    least-is c.args.n c.in-Some.p _ e.0 e.1 e.2 i.power_le i.next_power_gt i.bound

pub returns-in-None : goal.returns-in-None
returns-in-None c = least-none c.args.n c.in-None.ensures
