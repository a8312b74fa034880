-- `plan::fill::extend` meets its contract. Invariant: the list with the blocks from b on appended is the list with all n.
-- Assumes nothing.
use Rattle.plan.specs.Plan.{of_agfl}
use Rattle.seqs.specs.Lists.{appended, up_from}
use Prim.Native.Nat.{◌+◌, ◌-◌}
use mathlib.Core.Path.{◌≡◌}
use Rattle.plan.proofs.fill.extend.Given as goal

abbrev pub invariant-loop-b : goal.invariant-loop-b
invariant-loop-b l = appended (of_agfl l.initial.out) (up_from l.start l.n) ≡ appended (of_agfl l.out) (up_from l.b (l.start + l.n - l.b))
