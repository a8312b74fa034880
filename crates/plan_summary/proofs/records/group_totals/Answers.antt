-- `plan_summary::records::group_totals` meets its contract.
-- Assumes nothing.
use Rattle.plan.specs.declared.Planned.{Planned}
use Rattle.plan.specs.Plan.{planned}
use Rattle.plan_same.proofs.Planners.{planned-is-plan}
use Rattle.plan_totals.specs.Totals.{NarrowRecords}
use Rattle.plan_summary.proofs.Folds.{blocks-are, blocks-fit}
use Rattle.plan_summary.proofs.Narrow.{plan-records}
use Rattle.plan_summary.specs.Summaries.{group_totals}
use borrow.Author.Tests.{ne_eqb}
use lib.ListN.{length}
use native.Mathlib.Omega.{arith}
use Prim.Native.Nat.{ℕ, ◌≤◌}
use mathlib.Core.Path.{◌≡◌, sym, ap, ◌∙◌}
use borrow.Author.Rules.{rules}
use Rattle.geometry.specs.declared.Geometry.{Geometry}
use Rattle.plan_summary.proofs.records.group_totals.Goals as goal

-- an accepted plan's records are few and narrow
few : (g : Geometry) (k : ℕ) (p : Planned) → length g.label ≡ 12 → p ≡ planned g k → p.number ≡ 0 → (p.plan.free.len ≤ 2) × NarrowRecords p.plan.free
few g k p l e n =
    let z : (planned g k).number ≡ 0 = sym (ap (λ (x : Planned). x.number) e) ∙ n in
    rw e (plan-records g (planned g k).plan l (planned-is-plan g k z))

pub returns-then-number-ne0 : goal.returns-then-number-ne0
unfolding group_totals
returns-then-number-ne0 c = rw (← c.plan_ag-answer.ensures, ne_eqb _ 0 c.if-number-ne0.true)

pub sum_of-requires : goal.sum_of-requires
sum_of-requires c =
    let l : length c.args.g.label ≡ 12 = search (rules, c.well_formed.0.1.1.1.1.1.1.1.1.1.1.1.1.1.1.1.1.1.1.1) in
    let f = few c.args.g c.args.agno c.plan_ag-answer.result l c.plan_ag-answer.ensures c.if-number-ne0.false in
    record { few = omega (arith, f.0); fits = blocks-fit c.plan_ag-answer.result.plan.free f.1 }

pub longest_of-requires : goal.longest_of-requires
longest_of-requires c =
    let l : length c.args.g.label ≡ 12 = search (rules, c.well_formed.0.1.1.1.1.1.1.1.1.1.1.1.1.1.1.1.1.1.1.1) in
    let f = few c.args.g c.args.agno c.plan_ag-answer.result l c.plan_ag-answer.ensures c.if-number-ne0.false in
    omega (arith, f.0)

pub returns : goal.returns
unfolding group_totals
returns c = rw (c.longest_of.ensures, c.sum_of.ensures ∙ sym (blocks-are c.plan_ag-answer.result.plan.free), ← c.plan_ag-answer.ensures, c.if-number-ne0.false)
