-- `arith::numbers::product_fits` meets its contract.
-- Assumes nothing.
use native.Mathlib.Omega.{arith}
use native.Mathlib.Nat.{mul-zero}
use Rattle.arith.proofs.Product.{fits-test}
use Rattle.arith.proofs.numbers.product_fits.Goals as goal

pub returns-then-b-eq0 : goal.returns-then-b-eq0
returns-then-b-eq0 c = rw (c.if-b-eq0.true, mul-zero)

pub returns-else-b-eq0 : goal.returns-else-b-eq0
returns-else-b-eq0 c = let a = c.args in fits-test a.a a.b (omega arith)
