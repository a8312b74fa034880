-- Each turn puts a line or is the last.
use Rattle.std.proofs.Common.{refl}
use Rattle.plan_table.specs.Filling.{after_parts}
use Rattle.plan_table.proofs.Parts.{reached-more, part_falls}
use Rattle.plan_print.proofs.print.Goals as goal

pub loop-p-init : goal.loop-p-init
unfolding after_parts
loop-p-init g c = record { parts = 0; state-is = refl }

pub loop-p-smaller : goal.loop-p-smaller
loop-p-smaller g c =
    rw (c.turn-p.ensures.table_value, c.loop-p-test.true) (part_falls _ _ _ c.if-p-gt0.true c.turn-p.ensures.buf_value)

pub loop-p-preserved : goal.loop-p-preserved
loop-p-preserved g c =
    reached-more _ _ _ c.loop-p.invariant (rw c.loop-p.auto.buf at c.turn-p.ensures.table_value)
