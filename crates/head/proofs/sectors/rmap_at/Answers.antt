-- `head::sectors::rmap_at` meets its contract.
-- Assumes nothing.
use Rattle.geometry_layout.specs.Places.{rmap_block}
use native.Mathlib.Omega.{arith}
use Rattle.head.proofs.sectors.rmap_at.Goals as goal

pub returns : goal.returns
unfolding rmap_block
returns c = (rw c.flag.ensures.0, omega (arith, c.flag.ensures.1, c.requires))
