-- `plan_table::rows::free_in` meets its contract.
-- Assumes nothing.
use Rattle.plan_summary.specs.Summaries.{free_blocks_in}
use Rattle.std.proofs.Common.{◌∙◌}
use Rattle.plan_table.proofs.rows.free_in.Goals as goal

pub returns : goal.returns
unfolding free_blocks_in
returns c = c.saturating_sub-3.ensures ∙ rw (c.chunk_in.ensures, c.saturating_sub-2.ensures, c.saturating_sub-after.ensures, c.log_in.ensures, c.saturating_sub.ensures, c.length_in.ensures)
