-- `endian::numbers::store` meets its contract. The loop writes the bytes from the last to the first: `n - i` of them stand in the buffer.
-- Assumes nothing.
use mathlib.Core.Path.{◌≡◌, refl, ap, ◌∙◌}
use Prim.Native.Nat.{◌+◌, ◌-◌}
use native.Mathlib.Nat.{div-one, add-zero, sub_self, sub-zero}
use native.Mathlib.Omega.{arith}
use lib.ListN.{length-set}
use Rattle.endian.specs.Bytes.{be_bytes, patch}
use Rattle.endian.proofs.Laws.{patch-turn, be-turn, shift-turn}
use Rattle.endian.proofs.numbers.store.Goals as goal

pub loop-i-init : goal.loop-i-init
unfolding patch be_bytes
loop-i-init c = (omega arith, simp (sub_self, div-one), simp sub_self, refl)

pub loop-i-preserved : goal.loop-i-preserved
loop-i-preserved c = let l = c.loop-i in
    let a = c.args in
    let h = c.loop-i-test.true in (
      omega arith,
      shift-turn a.off l.i h a.n a.v l.x l.invariant.0 l.invariant.1,
      patch-turn a.off l.i h _ _ _ _ l.invariant.2
          ∙ ap (λ bs. patch (a.off + (l.i - 1)) bs a.buf.now) (be-turn a.off l.i h a.n a.v l.x l.invariant.0 l.invariant.1),
      simp length-set (omega arith),
    )

pub returns : goal.returns
returns c = let l = c.loop-i in
    let a = c.args in
    let z : l.i ≡ 0 = omega arith in
    l.invariant.2 ∙ rw (z, add-zero, sub-zero)
