-- `plan_table::adding::with_row` meets its contract.
-- Assumes nothing.
use Rattle.plan_table.specs.Filling.{with_row}
use Rattle.std.proofs.Common.{refl}
use Rattle.plan_table.proofs.adding.with_row.Goals as goal

pub returns : goal.returns
unfolding with_row
returns c = rw (c.wrapping_add_u64-5.ensures.value, c.wrapping_add_u64-4.ensures.value, c.wrapping_add_u64-3.ensures.value, c.wrapping_add_u64-2.ensures.value, c.wrapping_add_u64.ensures.value) refl
