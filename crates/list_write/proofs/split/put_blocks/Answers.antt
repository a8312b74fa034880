-- `list_write::split::put_blocks` meets its contract. Invariant: the records from block j on, over what stands there, still make all n.
-- Assumes nothing.
use native.Mathlib.Omega.{arith}
use lib.ListN.{length}
use mathlib.Core.Path.{refl, ◌∙◌}
use Rattle.list_write.proofs.Splitting.{blocks_start, blocks-turn, blocks_end, nth-room}
use Rattle.list_write.proofs.split.put_blocks.Goals as goal

pub loop-j-init : goal.loop-j-init
loop-j-init c = (refl, blocks_start _ _ _ _ _ _)

pub put_nth-requires : goal.put_nth-requires
put_nth-requires c = let p = c.requires in let a = c.args in nth-room a.bs a.offset a.n a.at c.loop-j.j (length a.src.now) (length c.loop-j.buf) (omega arith) p.0 p.1 p.2 (omega arith)

pub loop-j-preserved : goal.loop-j-preserved
loop-j-preserved c = let a = c.args in let l = c.loop-j in (c.put_nth.auto.buf ∙ l.invariant.0, blocks-turn a.bs a.offset a.n a.at a.src.now l.j a.buf.now _ _ (omega arith) c.requires.2 l.invariant.1 c.put_nth.ensures)

pub returns : goal.returns
returns c = blocks_end _ _ _ _ _ _ _ _ (omega arith) c.loop-j.invariant.1
