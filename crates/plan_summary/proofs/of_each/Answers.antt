-- `plan_summary::of_each` meets its contract.
-- Assumes nothing.
use Rattle.plan_summary.proofs.Laws.{each_fits}
use native.Mathlib.Omega.{arith}
use Rattle.plan_summary.proofs.of_each.Goals as goal

pub overflow_mul-result : goal.overflow_mul-result
overflow_mul-result c = omega (arith, each_fits c.args.groups c.args.blocks c.requires.0 c.requires.1)
