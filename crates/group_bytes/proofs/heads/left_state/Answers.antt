-- `group_bytes::heads::left_state` meets its contract.
-- Assumes nothing.
use mathlib.Core.Path.{refl, ◌∙◌}
use borrow.Author.Tests.{eq-eqb, ne_eqb}
use Rattle.group_bytes.specs.Answers.{left_state}
use Rattle.group_bytes.proofs.heads.left_state.Goals as goal

pub returns-then-k-eq0 : goal.returns-then-k-eq0
unfolding left_state
returns-then-k-eq0 c = c.finished_state.ensures ∙ rw (eq-eqb c.args.k 0 c.if-k-eq0.true) refl

pub returns : goal.returns
unfolding left_state
returns c = c.state_of.ensures ∙ rw (ne_eqb c.args.k 0 c.if-k-eq0.false) refl
