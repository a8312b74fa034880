-- `plan_same::same_plan` meets its contract.
-- Assumes nothing.
use mathlib.Core.Path.{sym, ◌∙◌}
use lib.Dec.{eqb}
use Rattle.std.proofs.Math.Bool.{and_assoc}
use Rattle.plan_same.specs.Same.{same_plan}
use Rattle.plan_same.proofs.Derived.{chunk-is, free-is, agfl-is, rmap-is}
use Rattle.plan_same.proofs.same_plan.Goals as goal

pub returns : goal.returns
unfolding same_plan
returns c =
    let a = c.args.a in
    let b = c.args.b in
    (rw (free-is a.free b.free, agfl-is a.agfl b.agfl, rmap-is a.rmap b.rmap, chunk-is a.chunk b.chunk) at c.eq.ensures)
    ∙ sym (and_assoc (eqb a.agno b.agno) (eqb a.length b.length) _)
