-- `crc_loops::zeros::leap` meets its contract. Invariant: x after `left` · 64 · 2^k zero bytes is c after n · 64 of them.
-- Assumes nothing.
use Rattle.crc_register.proofs.Linear.{leaps-start, leaps-turn, leaps-end, leap-fewer}
use Rattle.crc_register.specs.Register.{crc_bits}
use native.Mathlib.Omega.{arith}
use mathlib.Core.Path.{◌≡◌}
use Prim.Native.Nat.{◌*◌, ◌-◌, ◌<◌}
use Rattle.crc_loops.proofs.zeros.leap.Goals as goal

pub loop-k-init : goal.loop-k-init
loop-k-init c = (c.requires.1, leaps-start c.args.n c.args.c)

pub hop-x-requires : goal.hop-x-requires
hop-x-requires c = (c.requires.0, omega arith)

pub loop-k-preserved : goal.loop-k-preserved
loop-k-preserved c = let l = c.loop-k in (leap-fewer l.k l.left (omega arith) l.invariant.0, leaps-turn l.k l.left l.x c.hop-x.result (crc_bits (512 * c.args.n) c.args.c 0) c.hop-x.ensures l.invariant.1)

pub returns : goal.returns
returns c = let l = c.loop-k in
    let e : 9 - l.k ≡ 0 = omega arith in
    let z : l.left < 1 = rw e at l.invariant.0 in
    leaps-end l.k l.left l.x (crc_bits (512 * c.args.n) c.args.c 0) (omega arith) l.invariant.1
