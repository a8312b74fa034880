-- `crc_loops::bytewise::run` meets its contract. Invariant: c with the bytes from i on gives what `from` gives with all of them.
-- Assumes nothing.
use Rattle.crc_register.proofs.Linear.{byte_more}
use Rattle.crc_register.proofs.Register.{update-ends}
use native.Mathlib.Omega.{arith}
use mathlib.Core.Path.{refl}
use Rattle.crc_loops.proofs.bytewise.run.Goals as goal

pub loop-b-init : goal.loop-b-init
loop-b-init c = refl

pub step-c-requires : goal.step-c-requires
step-c-requires c = c.requires

pub loop-b-preserved : goal.loop-b-preserved
loop-b-preserved c = let l = c.loop-b in byte_more l.c c.step-c.result c.args.from l.b-index c.args.s.now (omega arith) c.step-c.ensures l.invariant

pub returns : goal.returns
returns c = update-ends c.loop-b.c c.args.from c.loop-b.b-index c.args.s.now (omega arith) c.loop-b.invariant
