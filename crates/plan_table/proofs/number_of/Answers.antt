-- `plan_table::number_of` meets its contract.
-- Assumes nothing.
use Rattle.std.proofs.Common.{refl, arith, lt-ltb, eq-eqb, ne_eqb}
use Rattle.plan_table.proofs.number_of.Goals as goal

pub returns-then-n-eq0 : goal.returns-then-n-eq0
returns-then-n-eq0 c = rw c.if-n-eq0.true refl

pub returns-then-left-n : goal.returns-then-left-n
returns-then-left-n c = rw (lt-ltb 0 c.args.n (omega arith), eq-eqb _ _ c.if-left-n.true) refl

pub returns : goal.returns
returns c = rw (lt-ltb 0 c.args.n (omega arith), ne_eqb _ _ c.if-left-n.false) refl
