-- `arith::numbers::round_down` meets its contract: the product is at most the dividend.
-- Assumes nothing.
use mir.Facts.{Fits-le}
use native.Mathlib.Nat.{div-mul-le_self}
use Rattle.arith.proofs.numbers.round_down.Goals as goal

pub overflow_mul-result : goal.overflow_mul-result
overflow_mul-result c = let a = c.args in
    rw c.quotient.ensures (Fits-le (div-mul-le_self a.a a.b) c.ranges.a)

pub returns : goal.returns
returns c = cc
