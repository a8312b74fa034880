-- `plan_table::rows::row_in` meets its contract.
-- Assumes nothing.
use Rattle.plan_summary.specs.Summaries.{row_by_summary}
use Rattle.std.proofs.Common.{le-ltb, lt-ltb}
use Rattle.plan_table.proofs.rows.row_in.Goals as goal

pub returns-then-k-s : goal.returns-then-k-s
unfolding row_by_summary
returns-then-k-s c = rw (c.longest_in.ensures, c.free_in.ensures, c.chunk_in.ensures, c.log_in.ensures, c.length_in.ensures, lt-ltb _ _ c.if-k-s.true)

pub returns : goal.returns
unfolding row_by_summary
returns c = rw (c.no_row.ensures, le-ltb _ _ c.if-k-s.false)
