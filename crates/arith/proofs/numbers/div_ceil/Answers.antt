-- `arith::numbers::div_ceil` meets its contract: rounded up, a quotient is at most the dividend, so the sum fits.
-- Assumes nothing.
use mir.Facts.{Fits-le}
use Rattle.arith.specs.Numbers.{ceil_div}
use Rattle.arith.proofs.Laws.{ceil-le}
use Rattle.arith.proofs.numbers.div_ceil.Goals as goal

pub overflow_add-result : goal.overflow_add-result
overflow_add-result c = let a = c.args in
    rw (c.quotient.ensures, c.bit_of.ensures, c.remainder.ensures)
    (Fits-le (ceil-le a.a a.b) c.ranges.a)

pub returns : goal.returns
unfolding ceil_div
returns c = cc
