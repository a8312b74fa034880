-- `plan_table::rows::length_in` meets its contract.
-- Assumes nothing.
use Rattle.plan_summary.specs.Summaries.{length_in}
use Rattle.std.proofs.Common.{◌∙◌}
use Rattle.plan_table.proofs.rows.length_in.Goals as goal

pub returns : goal.returns
unfolding length_in
returns c = c.pick.ensures ∙ rw c.saturating_sub.ensures
