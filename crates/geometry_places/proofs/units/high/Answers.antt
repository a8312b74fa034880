-- `geometry_places::units::high` meets its contract: a shift to the right divides.
-- Assumes nothing.
use native.Mathlib.Omega.{arith}
use mathlib.Core.Path.{sym}
use Prim.Native.Nat.{◌^◌, ◌≤◌}
use native.Mathlib.Nat.{div-eq_of_lt}
use lib.Pow.{pow_mono}
use Rattle.geometry_places.proofs.units.high.Goals as goal

pub returns-else-log-lt64 : goal.returns-else-log-lt64
returns-else-log-lt64 c = let h : 2 ^ 64 ≤ 2 ^ c.args.log = pow_mono {i = 64} (omega arith) in
    sym (div-eq_of_lt (omega arith))
