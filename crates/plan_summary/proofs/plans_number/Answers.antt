-- `plan_summary::plans_number` meets its contract.
-- Assumes nothing.
use Rattle.plan_summary.proofs.Laws.{its-number}
use Rattle.plan_summary.specs.declared.Summarised.{Summarised}
use mathlib.Core.Path.{ap, ◌∙◌}
use Rattle.plan_summary.proofs.plans_number.Goals as goal

pub returns : goal.returns
returns c = ap (λ (x : Summarised). x.number) c.summary_of-s.ensures ∙ its-number c.args.g
