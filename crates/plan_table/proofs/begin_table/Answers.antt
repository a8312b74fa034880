-- `plan_table::begin_table` meets its contract.
-- Assumes nothing.
use Rattle.plan_table.proofs.Begun.{begun-refused, begun-whole}
use Rattle.plan_table.specs.Filling.{table_refused, rest_of}
use Rattle.plan_table.specs.declared.Table.{Table}
use Rattle.plan_totals.proofs.Whole.{all-planned}
use Rattle.plan_summary.proofs.Laws.{its-number, its-summary, few-groups}
use Rattle.plan_summary.specs.declared.Summarised.{Summarised}
use Rattle.std.proofs.Common.{◌≡◌, length, sym, ap, ◌∙◌, arith, rules}
use Rattle.plan_table.proofs.begin_table.Goals as goal

pub returns-then-number-ne0 : goal.returns-then-number-ne0
returns-then-number-ne0 c = let g = c.args.g in let e = ap (λ (x : Summarised). x.number) c.summary_of-made.ensures ∙ its-number g in let q = begun-refused g (λ z. c.if-number-ne0.true (e ∙ z)) in let u = c.refused.ensures ∙ ap table_refused e in (u ∙ q.0, ap (λ (x : Table). rest_of x) u ∙ q.1)

pub overflow_add-result : goal.overflow_add-result
overflow_add-result c = let g = c.args.g in let l : length g.label ≡ 12 = search (rules, c.well_formed.0.1.1.1.1.1.1.1.1.1.1.1.1.1.1.1.1.1.1.1) in let e = sym (its-number g) ∙ sym (ap (λ (x : Summarised). x.number) c.summary_of-made.ensures) ∙ c.if-number-ne0.false in let w = few-groups g l (all-planned g l e).0 in omega arith

pub returns : goal.returns
returns c = let g = c.args.g in let l : length g.label ≡ 12 = search (rules, c.well_formed.0.1.1.1.1.1.1.1.1.1.1.1.1.1.1.1.1.1.1.1) in let e = sym (its-number g) ∙ sym (ap (λ (x : Summarised). x.number) c.summary_of-made.ensures) ∙ c.if-number-ne0.false in let z = ap (λ (x : Summarised). x.summary) c.summary_of-made.ensures ∙ its-summary g e in let q = begun-whole g l e in rw (c.no_sums-sums.ensures, z) q
