-- `head::ag_head` meets its contract.
-- Assumes nothing.
use Rattle.head_bytes.proofs.Ready.{head-refused, plan-numbered}
use Rattle.head_frame.proofs.Fitting.{framed-plan, framed-frame}
use Rattle.head_frame.specs.declared.Framed.{Framed}
use Rattle.plan_same.specs.Same.{is_plan}
use borrow.Author.Tests.{ne_eqb}
use Rattle.structs.proofs.Encoded.{not-encoded}
use lib.ListN.{length}
use mathlib.Core.Bool.{true}
use mathlib.Core.Path.{◌≡◌, sym, ap, ◌∙◌}
use Rattle.head.proofs.ag_head.Goals as goal

pub returns-then-number-ne0 : goal.returns-then-number-ne0
returns-then-number-ne0 c =
    let a = c.args in
    let e = ap (λ (x : Framed). x.number) c.frame_of-framed.ensures in
    not-encoded (head-refused a.g a.plan (length a.buf.now) (λ z. c.if-number-ne0.true (e ∙ z)) ∙ sym e) (ne_eqb _ 0 c.if-number-ne0.true)

pub refill_whole-requires : goal.refill_whole-requires
refill_whole-requires c =
    let a = c.args in
    -- a frame that isn't refused is that of a plan of the planner
    let planner's : is_plan a.g a.plan ≡ true = framed-plan a.g a.plan (sym (ap (λ (x : Framed). x.number) c.frame_of-framed.ensures) ∙ c.if-number-ne0.false) in
    (planner's, ap (λ (x : Framed). x.frame) c.frame_of-framed.ensures ∙ framed-frame a.g a.plan planner's)

pub returns : goal.returns
returns c =
    let a = c.args in
    let planner's : is_plan a.g a.plan ≡ true = framed-plan a.g a.plan (sym (ap (λ (x : Framed). x.number) c.frame_of-framed.ensures) ∙ c.if-number-ne0.false) in
    rw (plan-numbered a.g a.plan (length a.buf.now) planner's) c.refill_whole.ensures
