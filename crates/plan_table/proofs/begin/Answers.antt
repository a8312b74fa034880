-- `plan_table::begin` meets its contract.
-- Assumes nothing.
use Rattle.plan_table.proofs.Begun.{input-empty, input-refused, input-accepted}
use Rattle.plan_table.specs.Filling.{table_refused, begun_table, rest_of}
use Rattle.plan_table.specs.Printed.{table_answer}
use Rattle.plan_table.specs.declared.Table.{Table}
use Rattle.run.specs.declared.Run.{Run}
use Rattle.std.proofs.Common.{sym, ap, ◌∙◌}
use Rattle.plan_table.proofs.begin.Goals as goal

pub returns-then-input-eq0 : goal.returns-then-input-eq0
returns-then-input-eq0 c = let q = input-empty c.args.input.now c.if-input-eq0.true in (c.no_disk.ensures.0 ∙ q.0, c.no_disk.ensures.1 ∙ q.1)

pub returns-then-n-ne0 : goal.returns-then-n-ne0
returns-then-n-ne0 c = let xs = c.args.input.now in let e = ap (λ (x : Run). x.number) c.accept-run.ensures in let q = input-refused xs c.if-input-eq0.false (λ z. c.if-n-ne0.true (e ∙ z)) in let u = c.refused.ensures ∙ ap table_refused e in (u ∙ q.0, ap (λ (x : Table). rest_of x) u ∙ q.1)

pub returns : goal.returns
returns c = let xs = c.args.input.now in let a = c.accept-run.ensures in let q = input-accepted xs c.if-input-eq0.false (sym (ap (λ (x : Run). x.number) a) ∙ c.if-n-ne0.false) in (c.begin_table.ensures.0 ∙ ap (λ (x : Run). begun_table x.geometry) a ∙ q.0, c.begin_table.ensures.1 ∙ ap (λ (x : Run). table_answer x.geometry) a ∙ q.1)
