-- The state is that behind some parts. Each turn puts a line or is the last.
use Rattle.std.proofs.Common.{length, ◌+◌, cond}
use Rattle.plan_table.specs.Filling.{ReachedByParts}
use Rattle.plan_print.proofs.print.Given as goal

abbrev pub invariant-loop-p : goal.invariant-loop-p
invariant-loop-p g l = ReachedByParts (length l.initial.buf) l.initial.p.table l.p.table

abbrev pub decreases-loop-p : goal.decreases-loop-p
decreases-loop-p g l = l.p.table.left + cond l.p.written 1 0
