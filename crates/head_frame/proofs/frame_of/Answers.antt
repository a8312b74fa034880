-- `head_frame::frame_of` meets its contract.
-- Assumes nothing.
use Rattle.plan_summary.proofs.Told.{totals-plan, totals-none, totals-are}
use Rattle.head_frame.specs.Frames.{framed}
use Rattle.plan_summary.specs.declared.records.FreeTotals.{FreeTotals}
use mathlib.Core.Path.{sym, ap, ◌∙◌}
use Rattle.head_frame.proofs.frame_of.Goals as goal

pub returns-then-t-ne0 : goal.returns-then-t-ne0
unfolding framed
returns-then-t-ne0 c = let a = c.args in let e = ap (λ (x : FreeTotals). x.number) c.free_totals-t.ensures in c.no_frame.ensures ∙ rw (totals-none a.g a.p (λ z. c.if-t-ne0.true (e ∙ z)))

pub frame_with-frame-requires : goal.frame_with-frame-requires
frame_with-frame-requires c = let a = c.args in let t = c.free_totals-t.ensures in let h = totals-plan a.g a.p (sym (ap (λ (x : FreeTotals). x.number) t) ∙ c.if-t-ne0.false) in (h, ap (λ (x : FreeTotals). x.blocks) t ∙ (totals-are a.g a.p h).0, ap (λ (x : FreeTotals). x.longest) t ∙ (totals-are a.g a.p h).1)

pub returns : goal.returns
unfolding framed
returns c = let a = c.args in let h = totals-plan a.g a.p (sym (ap (λ (x : FreeTotals). x.number) c.free_totals-t.ensures) ∙ c.if-t-ne0.false) in rw (h, c.frame_with-frame.ensures)
