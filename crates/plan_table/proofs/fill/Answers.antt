-- `plan_table::fill` meets its contract. Invariant: the lines that still fit, over those that are put already, are the part. Each turn puts a line or is the last.
-- Assumes nothing.
use Rattle.seqs.proofs.Laws.{never}
use Rattle.plan_table.proofs.Steps.{begins, goes_on, falls, ends-bytes, ends-filled}
use Rattle.std.proofs.Common.{◌≡◌, false, sym, ◌∙◌, arith}
use borrow.Author.Tests.{not-true, not-false}
use Rattle.plan_table.proofs.fill.Goals.{then-loop-at-test+else-not-at, else-loop-at-test}
use Rattle.plan_table.proofs.fill.Goals as goal

pub loop-at-init : goal.loop-at-init
loop-at-init c = begins _ _

pub loop-at-smaller : goal.loop-at-smaller
loop-at-smaller c = falls _ _ _ _ c.loop-at.at.full _ c.loop-at.invariant (not-true _ c.if-not-at.true) (omega arith) c.step-at.ensures

pub loop-at-preserved : goal.loop-at-preserved
loop-at-preserved c = goes_on _ _ _ _ c.loop-at.at.full _ c.loop-at.invariant (not-true _ c.if-not-at.true) (omega arith) c.step-at.ensures

pub shape_of-buf : goal.shape_of-buf
shape_of-buf c = c.loop-at.invariant.same_length

pub returns : goal.returns
returns c =
    let l = c.loop-at in
    let h : l.at.full ≡ false → l.at.table.left ≡ 0 =
    elim c.loop-at-test.branch [ then-loop-at-test+else-not-at w ↦ λ z. never (sym z ∙ not-false l.at.full w.if-not-at.false) | else-loop-at-test w ↦ λ z. omega arith ] in
    record {
      value = ends-filled _ _ _ _ _ _ l.invariant h c.number_of-number.ensures;
      buf_after = ends-bytes _ _ _ _ _ _ l.invariant h;
    }
