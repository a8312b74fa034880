-- `plan_holds::states::begin` meets its contract.
-- Assumes nothing.
use mathlib.Core.Path.{◌≡◌, refl, sym, ap, ◌∙◌}
use mathlib.Core.Bool.{true, false}
use lib.Dec.{eqb}
use Rattle.plan.specs.declared.Planned.{Planned}
use Rattle.plan.specs.Plan.{planned}
use borrow.Author.Tests.{eq-eqb, ne_eqb}
use Rattle.plan_holds.specs.Holding.{started}
use Rattle.plan_holds.proofs.states.begin.Goals as goal

pub returns-then-number-eq0 : goal.returns-then-number-eq0
unfolding started
returns-then-number-eq0 c = let p = c.plan_ag-p.ensures in
    let t : eqb (planned c.args.g c.args.agno).number 0 ≡ true = ap (λ (x : Planned). eqb x.number 0) (sym p) ∙ eq-eqb _ 0 c.if-number-eq0.true in
    rw (c.no_runs-held.ensures, t, ← p)

pub returns : goal.returns
unfolding started
returns c = let p = c.plan_ag-p.ensures in
    let t : eqb (planned c.args.g c.args.agno).number 0 ≡ false = ap (λ (x : Planned). eqb x.number 0) (sym p) ∙ ne_eqb _ 0 c.if-number-eq0.false in
    c.refused.ensures ∙ rw (t, ← p) refl
