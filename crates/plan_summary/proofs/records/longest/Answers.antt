-- `plan_summary::records::longest` meets its contract.
-- Assumes nothing.
use Rattle.plan_summary.proofs.Told.{value-told}
use Rattle.plan_summary.specs.declared.records.FreeTotals.{FreeTotals}
use mathlib.Core.Path.{◌∙◌}
use Rattle.plan_summary.proofs.records.longest.Goals as goal

pub returns : goal.returns
returns c = let a = c.args in c.value_of.ensures ∙ rw c.free_totals-t.ensures (value-told (λ (x : FreeTotals). x.longest) a.g a.p)
