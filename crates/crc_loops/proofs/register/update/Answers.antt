-- `crc_loops::register::update` meets its contract.
-- Assumes nothing.
use Rattle.crc_register.proofs.Linear.{in_two}
use lib.Seq.{length-take-le}
use lib.ListN.{length}
use native.Mathlib.Omega.{arith}
use Prim.Native.Nat.{◌-◌, ◌*◌, ◌≤◌}
use mathlib.Core.Path.{sym}
use Rattle.crc_loops.proofs.register.update.Goals as goal

pub slice_bounds-body-end : goal.slice_bounds-body-end
slice_bounds-body-end c = let a = c.args in let n = c.trim-n.result in let h : length a.s.now - n * 64 ≤ length a.s.now = omega arith in sym (length-take-le (length a.s.now - n * 64) a.s.now h)

pub returns : goal.returns
returns c = let a = c.args in let n = c.trim-n.result in in_two (length a.s.now - n * 64) n a.from c.body-c.result c.jumped.result a.s.now c.trim-n.ensures.1.1 c.body-c.ensures c.jumped.ensures
