-- `crc_loops::zeros::when` meets its contract.
-- Assumes nothing.
use native.Mathlib.Omega.{arith}
use native.Mathlib.Nat.{mul-one, mul-zero}
use Prim.Native.Nat.{ℕ, ◌*◌}
use mathlib.Core.Path.{◌≡◌, sym, ap, ◌∙◌}
use Rattle.crc_loops.proofs.zeros.when.Goals as goal

pub returns-then-bit-eq1 : goal.returns-then-bit-eq1
returns-then-bit-eq1 c = let a = c.args in let e : a.bit ≡ 1 = omega arith in sym (ap (λ (k : ℕ). a.v * k) e ∙ mul-one a.v)

pub returns : goal.returns
returns c = let a = c.args in let e : a.bit ≡ 0 = omega arith in sym (ap (λ (k : ℕ). a.v * k) e ∙ mul-zero a.v)
