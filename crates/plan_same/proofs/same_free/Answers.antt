-- `plan_same::same_free` meets its contract.
-- Assumes nothing.
use mathlib.Core.Path.{◌∙◌}
use Rattle.plan_same.proofs.Derived.{free-is}
use Rattle.plan_same.proofs.same_free.Goals as goal

pub returns : goal.returns
returns c = c.eq.ensures ∙ free-is c.args.a c.args.b
