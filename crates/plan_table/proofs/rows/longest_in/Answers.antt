-- `plan_table::rows::longest_in` meets its contract.
-- Assumes nothing.
use Rattle.plan_summary.specs.Summaries.{longest_in}
use Rattle.std.proofs.Common.{refl, ◌∙◌}
use Rattle.plan_table.proofs.rows.longest_in.Goals as goal

pub returns : goal.returns
unfolding longest_in
returns c = c.pick.ensures ∙ rw (c.free_in.ensures, c.max_u32.ensures, c.saturating_sub-after.ensures, c.saturating_sub-2.ensures, c.length_in.ensures, c.saturating_sub-before.ensures, c.saturating_sub.ensures) refl
