-- `head_frame::frame_at` meets its contract.
-- Assumes nothing.
use Rattle.plan_summary.proofs.Told.{group-number, group-plan, group-are}
use Rattle.plan_summary.specs.declared.records.GroupTotals.{GroupTotals}
use Rattle.plan.specs.declared.AgPlan.{AgPlan}
use Rattle.plan.specs.Plan.{planned}
use Rattle.plan_same.proofs.Planners.{planned-is-plan}
use Rattle.plan_totals.specs.Totals.{freeblks_of, longest_of}
use Rattle.head_frame.specs.Frames.{framed_at}
use borrow.Author.Tests.{ne_eqb}
use mathlib.Core.Path.{◌≡◌, sym, ap, ◌∙◌}
use Rattle.head_frame.proofs.frame_at.Goals as goal

-- number_is and plan-is: what the totals say of the planner's answer
pub returns-then-number-ne0 : goal.returns-then-number-ne0
unfolding framed_at
returns-then-number-ne0 c =
    let number_is : c.group_totals-t.result.number ≡ (planned c.args.g c.args.agno).number = ap (λ (x : GroupTotals). x.number) c.group_totals-t.ensures ∙ group-number c.args.g c.args.agno in
    let plan-is : c.group_totals-t.result.plan ≡ (planned c.args.g c.args.agno).plan = ap (λ (x : GroupTotals). x.plan) c.group_totals-t.ensures ∙ group-plan c.args.g c.args.agno in
    rw (c.no_frame-none.ensures, ← number_is, ← plan-is, ne_eqb _ 0 c.if-number-ne0.true)

pub frame_with-frame-requires : goal.frame_with-frame-requires
frame_with-frame-requires c =
    let number_is : c.group_totals-t.result.number ≡ (planned c.args.g c.args.agno).number = ap (λ (x : GroupTotals). x.number) c.group_totals-t.ensures ∙ group-number c.args.g c.args.agno in
    let plan-is : c.group_totals-t.result.plan ≡ (planned c.args.g c.args.agno).plan = ap (λ (x : GroupTotals). x.plan) c.group_totals-t.ensures ∙ group-plan c.args.g c.args.agno in
    let a = c.args in
    let z = sym number_is ∙ c.if-number-ne0.false in
    let t = c.group_totals-t.ensures in
    let m = group-are a.g a.agno z in (
      rw plan-is (planned-is-plan a.g a.agno z),
      ap (λ (x : GroupTotals). x.blocks) t ∙ m.0 ∙ sym (ap (λ (x : AgPlan). freeblks_of x.free) plan-is),
      ap (λ (x : GroupTotals). x.longest) t ∙ m.1 ∙ sym (ap (λ (x : AgPlan). longest_of x.free) plan-is),
    )

pub returns : goal.returns
unfolding framed_at
returns c =
    let number_is : c.group_totals-t.result.number ≡ (planned c.args.g c.args.agno).number = ap (λ (x : GroupTotals). x.number) c.group_totals-t.ensures ∙ group-number c.args.g c.args.agno in
    let plan-is : c.group_totals-t.result.plan ≡ (planned c.args.g c.args.agno).plan = ap (λ (x : GroupTotals). x.plan) c.group_totals-t.ensures ∙ group-plan c.args.g c.args.agno in
    rw (c.frame_with-frame.ensures, ← number_is, ← plan-is, c.if-number-ne0.false)
