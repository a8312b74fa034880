-- The part that was filled is the table's, and what was not filled was not written.
use Rattle.std.proofs.Common.{ap}
use Rattle.plan_table.specs.Filling.{table_filled}
use Rattle.plan_table.specs.declared.Filled.{Filled}
use Rattle.plan_print.proofs.turn.Goals as goal

pub returns-then-f-ne0-clause-table_value : goal.returns-then-f-ne0-clause-table_value
unfolding table_filled
returns-then-f-ne0-clause-table_value g c = ap (λ (x : Filled). x.table) c.fill-f.ensures.value

pub returns-clause-table_value : goal.returns-clause-table_value
unfolding table_filled
returns-clause-table_value g c = ap (λ (x : Filled). x.table) c.fill-f.ensures.value
