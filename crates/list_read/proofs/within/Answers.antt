-- `list_read::within` meets its contract.
-- Assumes nothing.
use Rattle.list_read.proofs.Heads.{ends-within, ends-past}
use native.Mathlib.Omega.{arith}
use Rattle.list_read.proofs.within.Goals as goal

pub returns-then-at-gt-LARGEST : goal.returns-then-at-gt-LARGEST
returns-then-at-gt-LARGEST c = ends-past _ _ (omega arith)

pub returns-then-at-len : goal.returns-then-at-len
returns-then-at-len c = ends-past _ _ (omega arith)

pub returns : goal.returns
returns c = ends-within _ _ (omega arith)
