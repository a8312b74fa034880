-- `plan::first::first_rmap` meets its contract.
-- Assumes nothing.
use Rattle.plan.proofs.Laws.{maps-packed}
use Rattle.plan.specs.Plan.{rmap_at_first}
use Rattle.plan_rmap.specs.Rmap.{to_rmap}
use mathlib.Core.Path.{ap, ◌∙◌}
use Rattle.plan.proofs.first.first_rmap.Goals as goal

pub returns-then-s : goal.returns-then-s
unfolding rmap_at_first
returns-then-s c = c.put_log.ensures ∙ rw (c.put_refc-b.ensures, c.put_head-a.ensures, c.empty-none.ensures, c.if-s.true) (ap to_rmap (maps-packed c.args.s))

pub returns : goal.returns
unfolding rmap_at_first
returns c = c.empty-none.ensures ∙ rw c.if-s.false
