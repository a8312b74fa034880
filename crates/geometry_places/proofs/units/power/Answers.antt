-- `geometry_places::units::power` meets its contract: 1 shifted to the left.
-- Assumes nothing.
use native.Mathlib.Omega.{arith}
use mathlib.Core.Path.{◌∙◌}
use Prim.Native.Nat.{◌^◌, ◌<◌}
use native.Mathlib.Nat.{one-mul}
use lib.Pow.{pow-lt}
use Rattle.geometry_places.proofs.units.power.Goals as goal

pub shifted-requires : goal.shifted-requires
shifted-requires c = (c.requires, let h : 2 ^ c.args.log < 2 ^ 64 = pow-lt {j = 64} c.requires in omega (arith, one-mul (2 ^ c.args.log)))

pub returns : goal.returns
returns c = c.shifted.ensures ∙ one-mul _
