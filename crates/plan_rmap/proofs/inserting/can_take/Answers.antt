-- `plan_rmap::inserting::can_take` meets its contract.
-- Assumes nothing.
use native.Mathlib.Omega.{arith}
use mathlib.Core.Path.{◌≡◌, sym, ◌∙◌}
use borrow.Author.Tests.{not-true, not-false}
use lib.ListN.{length}
use lib.Seq.{length-take-le}
use Rattle.plan_rmap.specs.Rmap.{rmap_of}
use Rattle.plan_rmap.proofs.Laws.{takes-no, takes-if}
use Rattle.plan_rmap.proofs.inserting.can_take.Goals as goal

pub returns-then-not-is_valid : goal.returns-then-not-is_valid
returns-then-not-is_valid c = sym (takes-no _ _ _ (sym c.is_valid.ensures ∙ c.if-not-is_valid.true))

pub returns-then-not-may_follow : goal.returns-then-not-may_follow
returns-then-not-may_follow c = let k : length c.args.l.recs ≡ 64 = c.well_formed.0.1.1.0.1.0.1 in
    let n : length (rmap_of c.args.l) ≡ c.args.l.len = length-take-le _ _ (omega arith) in
    sym (takes-if (rmap_of c.args.l) c.args.p c.args.r (omega arith) (sym c.is_valid.ensures ∙ c.if-not-is_valid.false) ∙ rw (← c.end_before-lo.ensures, ← c.may_follow.ensures, not-true c.may_follow.result c.if-not-may_follow.true-raw))

pub returns : goal.returns
returns c = let k : length c.args.l.recs ≡ 64 = c.well_formed.0.1.1.0.1.0.1 in
    let n : length (rmap_of c.args.l) ≡ c.args.l.len = length-take-le _ _ (omega arith) in
    c.next_ok.ensures ∙ sym (takes-if (rmap_of c.args.l) c.args.p c.args.r (omega arith) (sym c.is_valid.ensures ∙ c.if-not-is_valid.false) ∙ rw (← c.end_before-lo.ensures, ← c.may_follow.ensures, not-false c.may_follow.result c.if-not-may_follow.false-raw, c.end_of.ensures))
