-- `sb_states::names_root` meets its contract.
-- Assumes nothing.
use mathlib.Core.Path.{sym}
use native.Mathlib.Omega.{arith}
use Rattle.sb_states.proofs.Naming.{last-names, middle-is, none_of_two}
use Rattle.sb_states.proofs.names_root.Goals as goal

pub returns-then-agno-agcount : goal.returns-then-agno-agcount
returns-then-agno-agcount c = sym (last-names _ _ c.if-agno-agcount.true)

pub returns-then-agcount-gt2 : goal.returns-then-agcount-gt2
returns-then-agcount-gt2 c = sym (middle-is _ _ c.if-agno-agcount.false (let h = c.if-agcount-gt2.true in omega arith))

pub returns : goal.returns
returns c = sym (none_of_two _ _ c.if-agno-agcount.false (let h = c.if-agcount-gt2.false in omega arith))
