-- Sizes of an answer's blocks and sectors, in bytes.
-- Assumes nothing.
use Prim.Native.Nat.{◌^◌, ◌≤◌}
use native.Mathlib.Omega.{arith}
use lib.Pow.{pow_mono}
use Rattle.geometry.specs.declared.Geometry.{Geometry}
use Rattle.geometry_layout.specs.Bounds.{Bounds}

module _ (g : Geometry) (z : Bounds g) where
  pub block-least : 1024 ≤ g.blocksize
  block-least =
      let w : 2 ^ 10 ≤ 2 ^ g.blocklog = pow_mono {i = 10} z.sizes.block-least in
      let e = z.sizes.block-power in
      omega arith

  pub block-most : g.blocksize ≤ 16384
  block-most =
      let w : 2 ^ g.blocklog ≤ 2 ^ 14 = pow_mono {j = 14} z.sizes.block-most in
      let e = z.sizes.block-power in
      omega arith

  pub sector-least : 512 ≤ g.sectsize
  sector-least =
      let w : 2 ^ 9 ≤ 2 ^ g.sectlog = pow_mono {i = 9} z.sizes.sector-least in
      let e = z.sizes.sector-power in
      omega arith
