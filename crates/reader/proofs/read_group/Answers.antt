-- `reader::read_group` meets its contract.
-- Assumes nothing.
use mathlib.Core.Path.{◌∙◌}
use Rattle.reader.proofs.Answers.{refused, accepted}
use Rattle.reader.proofs.read_group.Goals as goal

pub returns-then-n-ne0 : goal.returns-then-n-ne0
returns-then-n-ne0 c = let a = c.args in
    c.no_plan.ensures ∙ refused a.g a.uuid a.agno a.head.now _ c.group_number-n.ensures c.if-n-ne0.true

pub returns : goal.returns
returns c = let a = c.args in
    accepted a.g a.uuid a.agno a.head.now _ c.group_number-n.ensures c.if-n-ne0.false _ c.plan_ag-planned.ensures
