-- `crc_loops::zeros::is_zero` meets its contract. Invariant: where x is 0, so are the bytes that were read.
-- Assumes nothing.
use Rattle.crc_register.proofs.Linear.{or-zero}
use borrow.Author.Tests.{eqb-true}
use borrow.Author.Count.{below_more}
use lib.ListN.{get_or}
use native.Mathlib.Omega.{arith}
use Rattle.crc_loops.proofs.zeros.is_zero.Goals as goal

pub loop-b-init : goal.loop-b-init
loop-b-init c = λ e j h. absurd (omega arith)

pub loop-b-preserved : goal.loop-b-preserved
loop-b-preserved c = λ e. let z = or-zero c.loop-b.x (get_or c.args.s.now c.loop-b.b-index 0) e in below_more _ _ (c.loop-b.invariant z.0) z.1

pub returns : goal.returns
returns c = λ e k h. c.loop-b.invariant (eqb-true c.loop-b.x 0 e) k (omega arith)
