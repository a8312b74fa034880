-- `geometry_places::refusal::group_refusal` meets its contract: by the tests that led there.
-- Assumes nothing.
use mathlib.Core.Path.{sym, ◌∙◌}
use Rattle.geometry_places.proofs.Refused.{group-no-answer, group-missing, group-there}
use Rattle.geometry_places.proofs.refusal.group_refusal.Goals as goal

pub returns-then-not-is_answer : goal.returns-then-not-is_answer
returns-then-not-is_answer c = sym (group-no-answer _ _ (sym c.is_answer.ensures ∙ c.if-not-is_answer.true))

pub returns-then-g-agno : goal.returns-then-g-agno
returns-then-g-agno c = sym (group-missing _ _ (sym c.is_answer.ensures ∙ c.if-not-is_answer.false) c.if-g-agno.true)

pub returns : goal.returns
returns c = sym (group-there _ _ (sym c.is_answer.ensures ∙ c.if-not-is_answer.false) c.if-g-agno.false)
