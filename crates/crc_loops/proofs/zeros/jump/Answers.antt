-- `crc_loops::zeros::jump` meets its contract. Invariant: r with the jump of the bits from i on, which x holds, is the jump of c.
-- Assumes nothing.
use Rattle.crc_register.proofs.Linear.{leap-starts, leap-bit, half-less, leap-ends}
use Rattle.crc_register.specs.Register.{crc_bits}
use lib.ListN.{get_or, drop}
use lib.Seq.{get_or-take, get_or-drop}
use native.Mathlib.Omega.{arith}
use Prim.Native.Nat.{ℕ, ◌+◌, ◌*◌, ◌-◌, ◌^◌, ◌<◌}
use mathlib.Core.List.{List}
use mathlib.Core.Path.{ap, ◌∙◌}
use Rattle.crc_loops.proofs.zeros.jump.Goals as goal

pub loop-entry-init : goal.loop-entry-init
loop-entry-init c = (omega arith, (c.ranges.c.fits, leap-starts (512 * 2 ^ c.args.k) c.args.c))

pub loop-entry-preserved : goal.loop-entry-preserved
loop-entry-preserved c = let a = c.args in
    let l = c.loop-entry in
    let i = l.entry-index in
    let h : i < 32 = omega arith in
    let n = a.k * 32 + 32 - a.k * 32 in
    let m : i < n = omega arith in (
      omega arith,
      (
        half-less i l.x h l.invariant.1.0,
        leap-bit a.k i l.x l.r _ c.when-r.result (crc_bits (512 * 2 ^ a.k) a.c 0) c.requires.1 h
            (get_or-take n (drop (a.k * 32) a.t.now) i 0 m ∙ get_or-drop (a.k * 32) a.t.now i 0 ∙ ap (λ (t : List ℕ). get_or t (a.k * 32 + i) 0) c.requires.0) c.when-r.ensures l.invariant.1.1,
      ),
    )

pub returns : goal.returns
returns c = let a = c.args in
    let l = c.loop-entry in
    leap-ends (512 * 2 ^ a.k) l.entry-index l.x l.r (crc_bits (512 * 2 ^ a.k) a.c 0) (omega arith) l.invariant.1.0 l.invariant.1.1
