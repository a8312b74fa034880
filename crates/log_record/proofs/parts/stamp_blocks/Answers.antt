-- `log_record::parts::stamp_blocks` meets its contract. Invariant: the stamps from block i on, over what stands there, still make all of them.
-- Assumes nothing.
use Rattle.log_record.proofs.Laws.{stamp-turn, stamp-ends}
use Rattle.endian.proofs.Laws.{put_in}
use native.Mathlib.Omega.{arith}
use mathlib.Core.Path.{refl, ◌∙◌}
use Rattle.log_record.proofs.parts.stamp_blocks.Goals as goal

pub loop-i-init : goal.loop-i-init
loop-i-init c = (refl, refl)

pub loop-i-preserved : goal.loop-i-preserved
loop-i-preserved c = (c.put32.auto.buf ∙ c.loop-i.invariant.0, stamp-turn _ _ _ _ _ _ c.loop-i-test.true c.loop-i.invariant.1 (put_in c.put32.ensures (omega arith)))

pub shape_of-rec : goal.shape_of-rec
shape_of-rec c = c.loop-i.invariant.0

pub returns : goal.returns
returns c = stamp-ends _ _ _ _ _ c.loop-i-test.false c.loop-i.invariant.1
