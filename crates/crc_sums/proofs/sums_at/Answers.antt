-- `crc_sums::sums_at` meets its contract. Invariant: the sums of the first i places are there, and zeros behind them.
-- Assumes nothing.
use mathlib.Core.Path.{ap, ◌∙◌}
use Prim.Native.Nat.{ℕ, ◌≤◌, ◌<◌}
use native.Mathlib.Omega.{arith}
use lib.ListN.{length}
use lib.Seq.{get_or-take, length-take-le}
use Rattle.crc.specs.Right.{stored_at}
use Rattle.crc_sums.proofs.Laws.{sums-start, sums-turn, sums-end}
use Rattle.crc_sums.proofs.sums_at.Goals as goal

pub loop-i-init : goal.loop-i-init
loop-i-init c = sums-start 64 _ _

pub loop-i-preserved : goal.loop-i-preserved
loop-i-preserved c = let i = c.loop-i.i in
    let l : c.min-n.result ≤ length c.args.places.now = omega arith in
    let t = length-take-le c.min-n.result c.args.places.now l in
    let h : i < c.min-n.result = omega arith in
    sums-turn 64 i c.args.places.now c.args.buf.now c.loop-i.sums _ (omega arith) (omega arith) c.loop-i.invariant
    (c.stored.ensures ∙ ap (λ (k : ℕ). stored_at k c.args.buf.now) (get_or-take c.min-n.result c.args.places.now i 0 h))

pub returns : goal.returns
returns c = let l : c.min-n.result ≤ length c.args.places.now = omega arith in
    let t = length-take-le c.min-n.result c.args.places.now l in
    sums-end 64 c.loop-i.i c.args.places.now c.args.buf.now c.loop-i.sums (omega arith) (omega arith) c.loop-i.invariant
