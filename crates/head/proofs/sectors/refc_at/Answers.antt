-- `head::sectors::refc_at` meets its contract.
-- Assumes nothing.
use Rattle.geometry_layout.specs.Places.{refc_block}
use native.Mathlib.Omega.{arith}
use Rattle.head.proofs.sectors.refc_at.Goals as goal

pub returns : goal.returns
unfolding refc_block
returns c = (rw (c.flag.ensures.0, c.flag-2.ensures.0), omega (arith, c.flag.ensures.1, c.flag-2.ensures.1, c.requires))
