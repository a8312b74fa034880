-- `endian::runs::store32_run` meets its contract. Invariant: the numbers from i on, over what stands there, still make all of them.
-- Assumes nothing.
use mathlib.Core.Path.{refl, ◌∙◌}
use native.Mathlib.Nat.{add-zero}
use native.Mathlib.Omega.{arith}
use Rattle.endian.proofs.Order.{run-next, run-done}
use Rattle.endian.proofs.runs.store32_run.Goals as goal

pub loop-i-init : goal.loop-i-init
loop-i-init c = (omega arith, simp add-zero, refl)

pub loop-i-preserved : goal.loop-i-preserved
loop-i-preserved c = let l = c.loop-i in
    (omega arith, run-next 4 c.args.off l.i c.args.v.now l.buf _ _ c.loop-i-test.true l.invariant.1 c.store.ensures, c.store.auto.buf ∙ l.invariant.2)

pub returns : goal.returns
returns c = run-done 4 c.args.off c.loop-i.i c.args.v.now c.loop-i.buf _ c.loop-i-test.false c.loop-i.invariant.1
