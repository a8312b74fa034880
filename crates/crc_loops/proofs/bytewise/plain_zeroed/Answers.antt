-- `crc_loops::bytewise::plain_zeroed` meets its contract.
-- Assumes nothing.
use Rattle.crc_register.proofs.Register.{in_three}
use lib.Seq.{length-take-le}
use lib.ListN.{length}
use Prim.Native.Nat.{◌≤◌}
use mathlib.Core.Path.{sym}
use native.Mathlib.Omega.{arith}
use Rattle.crc_loops.proofs.bytewise.plain_zeroed.Goals as goal

pub slice_bounds-run-end : goal.slice_bounds-run-end
slice_bounds-run-end c = let a = c.args in sym (length-take-le a.off a.s.now (let h : a.off ≤ length a.s.now = omega arith in h))

pub returns : goal.returns
returns c = in_three c.args.off c.args.from _ _ _ c.args.s.now c.requires c.run-a.ensures c.run-b.ensures c.run.ensures
