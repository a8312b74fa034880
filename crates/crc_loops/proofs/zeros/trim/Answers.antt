-- `crc_loops::zeros::trim` meets its contract. Invariant: from `at` on there are n times 64 bytes, and each is 0.
-- Assumes nothing.
use Rattle.crc_register.proofs.Linear.{zero_more, trim-ends}
use mathlib.Core.Path.{sym, ◌∙◌}
use Prim.Native.Nat.{◌-◌, ◌≤◌}
use lib.ListN.{length, drop, length-drop}
use lib.Seq.{get_or-take, get_or-drop, length-take-le}
use native.Mathlib.Omega.{arith}
use Rattle.crc_loops.proofs.zeros.trim.Goals as goal

pub loop-n-init : goal.loop-n-init
loop-n-init c = (omega arith, λ i h l. absurd (omega arith))

pub returns-then-at-lt64 : goal.returns-then-at-lt64
returns-then-at-lt64 c = let l = c.loop-n in trim-ends l.at l.n c.args.s.now l.invariant.0 (omega arith) l.invariant.1

pub returns-then-not-is_zero : goal.returns-then-not-is_zero
returns-then-not-is_zero c = let l = c.loop-n in trim-ends l.at l.n c.args.s.now l.invariant.0 (omega arith) l.invariant.1

pub loop-n-preserved : goal.loop-n-preserved
loop-n-preserved c = let l = c.loop-n in
    let s = c.args.s.now in
    let from = l.at - 64 in
    let n : l.at - from ≤ length (drop from s) = omega (arith, length-drop from s) in (
      omega arith,
      zero_more l.at s c.if-at-lt64.false
          (λ k h. sym (get_or-take (l.at - from) (drop from s) k 0 (omega arith) ∙ get_or-drop from s k 0) ∙ c.is_zero.ensures c.if-not-is_zero.false k (omega (arith, length-take-le (l.at - from) (drop from s) n)))
          l.invariant.1,
    )

pub returns : goal.returns
returns c = let l = c.loop-n in trim-ends l.at 511 c.args.s.now (omega arith) (omega arith) l.invariant.1
