-- `crc_loops::register::inside_zeroed` meets its contract.
-- Assumes nothing.
use Rattle.crc_register.proofs.Linear.{in-two-zeroed}
use borrow.Author.Tests.{leb-true}
use lib.Seq.{length-take-le}
use lib.ListN.{length}
use Prim.Native.Nat.{◌-◌, ◌*◌, ◌≤◌}
use mathlib.Core.Path.{sym, ◌∙◌}
use native.Mathlib.Omega.{arith}
use Rattle.crc_loops.proofs.register.inside_zeroed.Goals as goal

pub slice_bounds-body_zeroed-end : goal.slice_bounds-body_zeroed-end
slice_bounds-body_zeroed-end c = let a = c.args in let n = c.trim-n.result in let h : length a.s.now - n * 64 ≤ length a.s.now = omega arith in sym (length-take-le (length a.s.now - n * 64) a.s.now h)

pub body_zeroed-c-requires : goal.body_zeroed-c-requires
body_zeroed-c-requires c = let a = c.args in let n = c.trim-n.result in let h : length a.s.now - n * 64 ≤ length a.s.now = omega arith in let g = leb-true _ _ (sym c.inside.ensures ∙ c.if-inside.true) in rw (length-take-le (length a.s.now - n * 64) a.s.now h) g

pub returns-then-inside : goal.returns-then-inside
returns-then-inside c = let a = c.args in let n = c.trim-n.result in in-two-zeroed a.off (length a.s.now - n * 64) n a.from _ _ a.s.now (leb-true _ _ (sym c.inside.ensures ∙ c.if-inside.true)) c.trim-n.ensures.1.1 c.body_zeroed-c.ensures c.jumped.ensures
