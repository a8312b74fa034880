-- `geometry_places::units::low` meets its contract: below 2 ^ 64 every number is its own remainder.
-- Assumes nothing.
use native.Mathlib.Omega.{arith}
use mathlib.Core.Path.{sym}
use Prim.Native.Nat.{◌^◌, ◌≤◌}
use native.Mathlib.Nat.{mod-eq_of_lt}
use lib.Pow.{pow_mono}
use Rattle.geometry_places.proofs.units.low.Goals as goal

pub returns-then-log-lt64 : goal.returns-then-log-lt64
returns-then-log-lt64 c = cc

pub returns-else-log-lt64 : goal.returns-else-log-lt64
returns-else-log-lt64 c = let h : 2 ^ 64 ≤ 2 ^ c.args.log = pow_mono {i = 64} (omega arith) in
    sym (mod-eq_of_lt (omega arith))
