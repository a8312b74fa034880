-- `request_texts::number` meets its contract.
-- Assumes nothing.
use lib.Seq.{length-take-le}
use Prim.Native.Nat.{◌*◌, ◌^◌, ◌<◌}
use Rattle.request_texts.proofs.Saying.{number-none, number_behind, number-over, number_fits, number-passes}
use borrow.Author.Tests.{lt-ltb, le-ltb}
use native.Mathlib.Omega.{arith}
use mathlib.Core.Path.{sym, ◌∙◌}
use Rattle.request_texts.proofs.number.Goals as goal

pub returns-then-n-eq0 : goal.returns-then-n-eq0
returns-then-n-eq0 c = c.refused.ensures ∙ number-none _ _ c.leading-n.ensures.0 c.if-n-eq0.true

pub returns-then-m-eq0 : goal.returns-then-m-eq0
returns-then-m-eq0 c = c.refused-then-m-eq0.ensures ∙ number_behind _ _ c.leading-n.ensures.0 _ c.factor-m.ensures c.if-n-eq0.false c.if-m-eq0.true

pub slice_bounds-decimal-end : goal.slice_bounds-decimal-end
slice_bounds-decimal-end c = sym (length-take-le _ _ c.leading-n.ensures.1)

pub returns-then-v-ne0 : goal.returns-then-v-ne0
returns-then-v-ne0 c = c.refused-then-v-ne0.ensures ∙ number-over _ _ c.leading-n.ensures.0 _ c.factor-m.ensures c.if-n-eq0.false _ c.decimal-v.ensures c.if-m-eq0.false c.if-v-ne0.true

pub returns-in-Some : goal.returns-in-Some
returns-in-Some c = let f = c.in-Some.ensures in rw f.1 (number_fits _ _ c.leading-n.ensures.0 _ c.factor-m.ensures c.if-n-eq0.false _ c.decimal-v.ensures c.if-m-eq0.false c.if-v-ne0.false (lt-ltb _ _ f.0))

pub returns-in-None : goal.returns-in-None
returns-in-None c = c.refused-in-None.ensures ∙ number-passes _ _ c.leading-n.ensures.0 _ c.factor-m.ensures c.if-n-eq0.false _ c.decimal-v.ensures c.if-m-eq0.false c.if-v-ne0.false (le-ltb _ (2 ^ 64) (let h : c.decimal-v.result.value * c.factor-m.result < 2 ^ 64 → ⊥ = c.in-None.ensures in omega arith))
