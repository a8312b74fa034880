-- `sb_states::number_of` meets its contract.
-- Assumes nothing.
use mathlib.Core.Path.{sym}
use native.Mathlib.Omega.{arith}
use Rattle.sb_states.specs.States.{state_number}
use Rattle.sb_states.proofs.Known.{no-group, some-state}
use borrow.Author.Tests.{ne_eqb}
use Rattle.sb_states.proofs.number_of.Goals as goal

pub returns-then-plans-ne0 : goal.returns-then-plans-ne0
unfolding state_number
returns-then-plans-ne0 c = rw (← c.plans_number-plans.ensures, ne_eqb _ 0 c.if-plans-ne0.true)

pub returns-then-g-agno : goal.returns-then-g-agno
returns-then-g-agno c = sym (no-group _ _ _ c.plans_number-plans.ensures c.if-plans-ne0.false (let h = c.if-g-agno.true in omega arith))

pub returns : goal.returns
returns c = sym (some-state _ _ _ c.plans_number-plans.ensures c.if-plans-ne0.false (let h = c.if-g-agno.false in omega arith))
