-- `geometry_counts::known` meets its contract: by the test of the geometry.
-- Assumes nothing.
use mathlib.Core.Path.{sym, ◌∙◌}
use Rattle.geometry_counts.specs.Known.{known}
use Rattle.geometry_counts.proofs.known.Goals as goal

pub returns-then-is_answer : goal.returns-then-is_answer
unfolding known
returns-then-is_answer g c = rw (sym c.is_answer.ensures ∙ c.if-is_answer.true)

pub returns-else-is_answer : goal.returns-else-is_answer
unfolding known
returns-else-is_answer g c = rw (sym c.is_answer.ensures ∙ c.if-is_answer.false)
