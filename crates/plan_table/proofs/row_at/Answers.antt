-- `plan_table::row_at` meets its contract.
-- Assumes nothing.
use Rattle.plan_table.specs.Printed.{row_answer}
use Rattle.plan_table.proofs.Begun.{row-refused}
use Rattle.plan_summary.proofs.Rows.{rows_agree}
use Rattle.plan_summary.proofs.Laws.{its-number, its-summary}
use Rattle.plan_summary.specs.Summaries.{row_by_summary}
use Rattle.plan_summary.specs.declared.Summarised.{Summarised}
use Rattle.plan_summary.specs.declared.Summary.{Summary}
use Rattle.plan_totals.specs.Totals.{plans_number}
use Rattle.std.proofs.Common.{◌≡◌, length, sym, ap, ◌∙◌, rules, eq-eqb}
use Rattle.plan_table.proofs.row_at.Goals as goal

pub returns-then-m-ne0 : goal.returns-then-m-ne0
returns-then-m-ne0 c = let g = c.args.g in let e = ap (λ (x : Summarised). x.number) c.summary_of-all.ensures ∙ its-number g in c.no_row.ensures ∙ row-refused g c.args.k e c.if-m-ne0.true

pub returns : goal.returns
unfolding row_answer
returns c = let g = c.args.g in let l : length g.label ≡ 12 = search (rules, c.well_formed.0.1.1.1.1.1.1.1.1.1.1.1.1.1.1.1.1.1.1.1) in let e = sym (its-number g) ∙ sym (ap (λ (x : Summarised). x.number) c.summary_of-all.ensures) ∙ c.if-m-ne0.false in let z = ap (λ (x : Summarised). x.summary) c.summary_of-all.ensures ∙ its-summary g e in c.row_in.ensures ∙ ap (λ (s : Summary). row_by_summary s c.args.k) z ∙ rows_agree g l e c.args.k ∙ rw (eq-eqb (plans_number g) 0 e)
