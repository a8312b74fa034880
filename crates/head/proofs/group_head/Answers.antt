-- `head::group_head` meets its contract.
-- Assumes nothing.
use Rattle.head_bytes.proofs.Ready.{group-refused, group-numbered}
use Rattle.head_frame.proofs.Fitting.{framed-at-number, framed-at-plan, framed-at-frame}
use Rattle.head_frame.specs.declared.FramedPlan.{FramedPlan}
use Rattle.head_frame.specs.Frames.{frame_of}
use Rattle.plan.specs.declared.AgPlan.{AgPlan}
use Rattle.plan.specs.Plan.{planned}
use Rattle.plan_same.proofs.Planners.{planned-is-plan}
use borrow.Author.Tests.{ne_eqb}
use Rattle.structs.proofs.Encoded.{not-encoded}
use lib.ListN.{length}
use mathlib.Core.Path.{◌≡◌, sym, ap, ◌∙◌}
use Rattle.head.proofs.group_head.Goals as goal

-- number_is and plan-is: what the frame says of the planner's answer
pub returns-then-number-ne0 : goal.returns-then-number-ne0
returns-then-number-ne0 c =
    let number_is : c.frame_at-framed.result.number ≡ (planned c.args.g c.args.agno).number = ap (λ (x : FramedPlan). x.number) c.frame_at-framed.ensures ∙ framed-at-number c.args.g c.args.agno in
    let a = c.args in
    let e = number_is in
    not-encoded (group-refused a.g a.agno (length a.buf.now) (λ z. c.if-number-ne0.true (e ∙ z)) ∙ sym e) (ne_eqb _ 0 c.if-number-ne0.true)

pub refill_whole-requires : goal.refill_whole-requires
refill_whole-requires c =
    let number_is : c.frame_at-framed.result.number ≡ (planned c.args.g c.args.agno).number = ap (λ (x : FramedPlan). x.number) c.frame_at-framed.ensures ∙ framed-at-number c.args.g c.args.agno in
    let plan-is : c.frame_at-framed.result.plan ≡ (planned c.args.g c.args.agno).plan = ap (λ (x : FramedPlan). x.plan) c.frame_at-framed.ensures ∙ framed-at-plan c.args.g c.args.agno in
    let a = c.args in
    let z = sym number_is ∙ c.if-number-ne0.false in
    let p = plan-is in (
      rw p (planned-is-plan a.g a.agno z),
      ap (λ (x : FramedPlan). x.frame) c.frame_at-framed.ensures ∙ framed-at-frame a.g a.agno z ∙ sym (ap (λ (x : AgPlan). frame_of a.g x) p),
    )

pub returns : goal.returns
returns c =
    let number_is : c.frame_at-framed.result.number ≡ (planned c.args.g c.args.agno).number = ap (λ (x : FramedPlan). x.number) c.frame_at-framed.ensures ∙ framed-at-number c.args.g c.args.agno in
    let plan-is : c.frame_at-framed.result.plan ≡ (planned c.args.g c.args.agno).plan = ap (λ (x : FramedPlan). x.plan) c.frame_at-framed.ensures ∙ framed-at-plan c.args.g c.args.agno in
    let a = c.args in
    let z = sym number_is ∙ c.if-number-ne0.false in
    rw (group-numbered a.g a.agno (length a.buf.now) z, ← plan-is) c.refill_whole.ensures
