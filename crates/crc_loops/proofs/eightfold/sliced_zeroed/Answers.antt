-- `crc_loops::eightfold::sliced_zeroed` meets its contract.
-- Assumes nothing.
use Rattle.crc_register.proofs.Register.{in_three}
use lib.Seq.{length-take-le}
use lib.ListN.{length}
use Prim.Native.Nat.{◌≤◌}
use mathlib.Core.Path.{sym}
use native.Mathlib.Omega.{arith}
use Rattle.crc_loops.proofs.eightfold.sliced_zeroed.Goals as goal

pub slice_bounds-eights-end : goal.slice_bounds-eights-end
slice_bounds-eights-end c = let a = c.args in sym (length-take-le a.off a.s.now (let h : a.off ≤ length a.s.now = omega arith in h))

pub returns : goal.returns
returns c = in_three c.args.off c.args.from _ _ _ c.args.s.now c.requires c.eights-a.ensures c.eights-b.ensures c.eights.ensures
