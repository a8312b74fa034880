-- `plan_summary::is_short` meets its contract.
-- Assumes nothing.
use Rattle.plan_summary.proofs.Laws.{short-after}
use native.Mathlib.Omega.{arith}
use mathlib.Core.Path.{sym, ◌∙◌}
use Rattle.plan_summary.proofs.is_short.Goals as goal

pub overflow_add-after : goal.overflow_add-after
overflow_add-after c = let s = c.requires.0 in omega (arith, s.log-after, s.head-most, s.log-most)

pub returns : goal.returns
returns c = sym (short-after c.args.s c.requires.1 ∙ rw (← c.saturating_sub.ensures))
