-- `plan_table::rows::chunk_in` meets its contract.
-- Assumes nothing.
use Rattle.plan_summary.specs.Summaries.{chunk_blocks_in}
use Rattle.plan_table.proofs.rows.chunk_in.Goals as goal

pub returns : goal.returns
unfolding chunk_blocks_in
returns c = c.pick.ensures
