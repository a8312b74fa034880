-- `plan_table::rows::log_in` meets its contract.
-- Assumes nothing.
use Rattle.plan_summary.specs.Summaries.{log_blocks_in}
use Rattle.plan_table.proofs.rows.log_in.Goals as goal

pub returns : goal.returns
unfolding log_blocks_in
returns c = c.pick.ensures
