-- `crc_loops::zeros::hop` meets its contract.
-- Assumes nothing.
use Rattle.crc_register.proofs.Linear.{hop-on, hop-off}
use native.Mathlib.Omega.{arith}
use Prim.Native.Nat.{◌*◌, ◌^◌, ◌%◌}
use mathlib.Core.Path.{◌≡◌}
use Rattle.crc_loops.proofs.zeros.hop.Goals as goal

pub returns-then-left-eq1 : goal.returns-then-left-eq1
returns-then-left-eq1 c = let a = c.args in let e : a.left % 2 ≡ 1 = omega arith in hop-on (512 * 2 ^ a.k) (a.left % 2) a.c c.jump.result e c.jump.ensures

pub returns : goal.returns
returns c = let a = c.args in let e : a.left % 2 ≡ 0 = omega arith in hop-off (512 * 2 ^ a.k) (a.left % 2) a.c e
