-- `ag::agfl::put_slots` meets its contract. Invariant: the list's first i blocks stand in their slots, and every other slot is null.
-- Assumes nothing.
use Rattle.ag.proofs.Slots.{slot-start, slot-end, slot_turn}
use Rattle.endian.proofs.Laws.{put_in}
use Rattle.std.proofs.Common.{◌≡◌, ◌+◌, ◌-◌, ◌/◌, ◌<◌, length, take, arith}
use lib.Seq.{take-length}
use native.Mathlib.Nat.{mod-lt}
use Rattle.ag.proofs.agfl.put_slots.Goals as goal

pub loop-i-init : goal.loop-i-init
loop-i-init c = let args = c.args in
    slot-start ((length args.sector.now - 36) / 4) args.first (take args.count args.list) args.sector.now _ (put_in c.put_same.ensures (omega arith))

pub loop-i-preserved : goal.loop-i-preserved
loop-i-preserved c = let args = c.args in
    let p : 0 < (length args.sector.now - 36) / 4 = omega arith in
    let m = mod-lt (args.first + c.loop-i.i) p in
    slot_turn ((length args.sector.now - 36) / 4) args.first c.loop-i.i (take args.count args.list) _ _ _ p c.loop-i-test.true c.loop-i.invariant (put_in c.put32.ensures (omega (arith, m, c.put_same.auto.buf, c.loop-i.auto.sector)))

pub returns : goal.returns
returns c = let args = c.args in
    let e : c.loop-i.i ≡ length (take args.count args.list) = omega arith in
    slot-end ((length args.sector.now - 36) / 4) args.first (take args.count args.list) args.sector.now _ _ (put_in c.put_same.ensures (omega arith)) (rw (e, take-length) at c.loop-i.invariant)
