-- `sb_states::state_of` meets its contract.
-- Assumes nothing.
use Rattle.sb_states.proofs.Known.{plans-there}
use Rattle.sb_states.specs.States.{stated, state_of, unfinished_state}
use borrow.Author.Tests.{eq-eqb, ne_eqb}
use mathlib.Core.Path.{sym, ◌∙◌}
use Rattle.sb_states.proofs.state_of.Goals as goal

pub returns-then-n-ne0 : goal.returns-then-n-ne0
unfolding stated
returns-then-n-ne0 c = c.refused.ensures ∙ rw (← c.number_of-n.ensures, ne_eqb _ 0 c.if-n-ne0.true)

pub primary-state-requires : goal.primary-state-requires
primary-state-requires c = plans-there _ _ (sym c.number_of-n.ensures ∙ c.if-n-ne0.false)

pub returns-then-agno-eq0 : goal.returns-then-agno-eq0
unfolding stated state_of unfinished_state
returns-then-agno-eq0 c = rw (← c.number_of-n.ensures, eq-eqb _ 0 c.if-n-ne0.false, eq-eqb _ 0 c.if-agno-eq0.true, c.primary-state.ensures)

pub secondary-state-requires : goal.secondary-state-requires
secondary-state-requires c = plans-there _ _ (sym c.number_of-n.ensures ∙ c.if-n-ne0.false)

pub returns : goal.returns
unfolding stated state_of
returns c = rw (← c.number_of-n.ensures, eq-eqb _ 0 c.if-n-ne0.false, ne_eqb _ 0 c.if-agno-eq0.false, c.secondary-state.ensures)
