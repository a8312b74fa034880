-- `table_lines::decimal::store_digits` meets its contract. Invariant: the digits of x, put before i, still make all of n's.
-- Assumes nothing.
use mathlib.Core.Path.{◌≡◌, refl, sym, ap, ◌∙◌}
use Prim.Native.Nat.{ℕ, ◌-◌}
use native.Mathlib.Omega.{arith}
use lib.ListN.{length, length-set}
use Rattle.endian.specs.Bytes.{patch}
use Rattle.table_lines.specs.Decimal.{decimal}
use Rattle.table_lines.proofs.Digits.{length-small, length_more}
use Rattle.table_lines.proofs.Stores.{digit-turn, digit-last}
use Rattle.table_lines.proofs.decimal.store_digits.Goals as goal

pub loop-x-init : goal.loop-x-init
loop-x-init c = (refl, refl, c.requires.0, omega arith, refl)

pub overflow_sub-i : goal.overflow_sub-i
overflow_sub-i c = omega (arith, length_more c.loop-x.x c.loop-x-test.true)

pub bounds-buf-i : goal.bounds-buf-i
bounds-buf-i c = omega (arith, length_more c.loop-x.x c.loop-x-test.true)

pub loop-x-preserved : goal.loop-x-preserved
loop-x-preserved c = let e = length_more c.loop-x.x c.loop-x-test.true in (sym (digit-turn c.loop-x.i c.loop-x.x c.loop-x.buf c.loop-x-test.true c.loop-x.invariant.2) ∙ c.loop-x.invariant.0, omega arith, omega arith, omega arith, simp length-set c.loop-x.invariant.4)

pub overflow_sub-i-2 : goal.overflow_sub-i-2
overflow_sub-i-2 c = omega (arith, length-small c.loop-x.x (omega arith))

pub bounds-buf-i-2 : goal.bounds-buf-i-2
bounds-buf-i-2 c = omega (arith, length-small c.loop-x.x (omega arith))

pub shape_of-buf : goal.shape_of-buf
shape_of-buf c = simp length-set c.loop-x.invariant.4

pub returns : goal.returns
returns c = let e = length-small c.loop-x.x (omega arith) in let k : c.args.end - length (decimal c.args.n) ≡ c.loop-x.i - 1 = omega arith in (omega arith, sym (digit-last c.loop-x.i c.loop-x.x c.loop-x.buf (omega arith)) ∙ c.loop-x.invariant.0 ∙ ap (λ (at : ℕ). patch at (decimal c.args.n) c.args.buf.now) k)
