-- `sb_states::finished_state` meets its contract.
-- Assumes nothing.
use Rattle.sb_states.specs.States.{finished_state, finished_answer}
use mathlib.Core.Path.{◌∙◌}
use borrow.Author.Tests.{eq-eqb, ne_eqb}
use Rattle.sb_states.proofs.finished_state.Goals as goal

pub returns-then-n-ne0 : goal.returns-then-n-ne0
unfolding finished_answer
returns-then-n-ne0 c = c.refused.ensures ∙ rw (← c.plans_number-n.ensures, ne_eqb _ 0 c.if-n-ne0.true)

pub returns : goal.returns
unfolding finished_answer finished_state
returns c = rw (← c.plans_number-n.ensures, eq-eqb _ 0 c.if-n-ne0.false, c.primary-state.ensures)
