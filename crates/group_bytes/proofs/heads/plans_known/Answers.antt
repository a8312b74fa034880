-- `group_bytes::heads::plans_known` meets its contract.
-- Assumes nothing.
use native.Mathlib.Omega.{arith}
use Rattle.group_bytes.proofs.heads.plans_known.Goals as goal

pub returns-then-g-k : goal.returns-then-g-k
returns-then-g-k c = c.plans_number.ensures

pub returns : goal.returns
returns c = c.requires (let h = c.if-g-k.false in omega arith)
