-- `btree::leaf::put_records` meets its contract. Invariant: the bytes of `recs` from i on are copied, and all others are as they were.
-- Assumes nothing.
use mathlib.Core.Path.{◌≡◌, refl, ap, ◌∙◌, sym}
use Prim.Native.Nat.{◌+◌, ◌-◌}
use native.Mathlib.Nat.{add-zero}
use native.Mathlib.Omega.{arith}
use lib.ListN.{length, length-set}
use lib.Seq.{drop-length}
use Rattle.endian.specs.Bytes.{patch}
use Rattle.endian.proofs.Laws.{patch-turn, drop-turn}
use Rattle.btree.proofs.leaf.put_records.Goals as goal

pub loop-i-init : goal.loop-i-init
unfolding patch
loop-i-init c = (omega arith, sym (ap (λ bs. patch (56 + length c.args.recs.now) bs c.args.block.now) (drop-length c.args.recs.now)), refl)

pub loop-i-preserved : goal.loop-i-preserved
loop-i-preserved c = let l = c.loop-i in
    let a = c.args in
    let h = c.loop-i-test.true in (
      omega arith,
      patch-turn 56 l.i h _ _ _ _ l.invariant.1
          ∙ ap (λ bs. patch (56 + (l.i - 1)) bs a.block.now) (drop-turn 56 l.i h a.recs.now l.invariant.0),
      simp length-set (omega arith),
    )

pub returns : goal.returns
returns c = let l = c.loop-i in
    let z : l.i ≡ 0 = omega arith in
    l.invariant.1 ∙ rw (z, add-zero)
