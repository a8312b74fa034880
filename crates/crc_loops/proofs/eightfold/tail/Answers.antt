-- `crc_loops::eightfold::tail` meets its contract. Invariant: c with the bytes from i on gives what `from` gives with all of them.
-- Assumes nothing.
use Rattle.crc_register.proofs.Words.{look-turn, turn-to, ends_at}
use Rattle.crc_register.specs.Register.{crc_bytes}
use lib.ListN.{get_or}
use lib.Bits.{bit_xor}
use lib.Dec.{lit<}
use native.Mathlib.Nat.{mod-lt}
use native.Mathlib.Omega.{arith}
use Prim.Native.Nat.{◌/◌}
use mathlib.Core.Path.{refl}
use Rattle.crc_loops.proofs.eightfold.tail.Goals as goal

pub loop-b-init : goal.loop-b-init
loop-b-init c = refl

pub look-v-requires : goal.look-v-requires
look-v-requires c = (c.requires, (lit< tt, mod-lt _ (lit< tt)))

pub loop-b-preserved : goal.loop-b-preserved
loop-b-preserved c = let l = c.loop-b in
    let a = c.args in
    turn-to l.c (bit_xor c.look-v.result (l.c / 256)) l.b-index (crc_bytes a.from a.s.now) a.s.now (omega arith)
    (look-turn l.c (get_or a.s.now l.b-index 0) c.wide.result c.look-v.result c.wide.ensures.0 c.wide.ensures.1 c.look-v.ensures) l.invariant

pub returns : goal.returns
returns c = let l = c.loop-b in ends_at l.c l.b-index (crc_bytes c.args.from c.args.s.now) c.args.s.now (omega arith) l.invariant
