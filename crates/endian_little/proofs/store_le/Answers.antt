-- `endian_little::store_le` meets its contract. Invariant: the bytes from i on, over what stands there, are still the whole number's.
-- Assumes nothing.
use mathlib.Core.Path.{refl}
use native.Mathlib.Nat.{add-zero, sub-zero}
use native.Mathlib.Omega.{arith}
use lib.ListN.{length-set}
use Rattle.endian_little.proofs.Laws.{le-turn, le-done}
use Rattle.endian_little.proofs.store_le.Goals as goal

pub loop-i-init : goal.loop-i-init
loop-i-init c = (omega arith, simp (add-zero, sub-zero), refl)

pub loop-i-preserved : goal.loop-i-preserved
loop-i-preserved c = (omega arith, le-turn _ _ _ _ _ _ c.loop-i-test.true c.loop-i.invariant.1, simp length-set (omega arith))

pub returns : goal.returns
returns c = le-done _ _ _ _ _ _ c.loop-i-test.false c.loop-i.invariant.1
