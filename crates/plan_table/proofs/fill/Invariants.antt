-- `plan_table::fill` meets its contract. Invariant: the lines that still fit, over those that are put already, are the part. Each turn puts a line or is the last.
-- Assumes nothing.
use Rattle.plan_table.proofs.Steps.{Going}
use Rattle.std.proofs.Common.{◌+◌, cond}
use Rattle.plan_table.proofs.fill.Given as goal

abbrev pub invariant-loop-at : goal.invariant-loop-at
invariant-loop-at l = Going l.t l.initial.buf l.at.table l.at.end l.at.full l.buf

abbrev pub decreases-loop-at : goal.decreases-loop-at
decreases-loop-at l = l.at.table.left + cond l.at.full 0 1
