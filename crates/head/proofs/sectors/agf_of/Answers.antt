-- `head::sectors::agf_of` meets its contract.
-- Assumes nothing.
use Rattle.structs.proofs.Lengths.{sector-least}
use Rattle.geometry_layout.specs.Places.{cnt_block, agfl_size}
use native.Mathlib.Omega.{arith}
use Prim.Native.Nat.{◌≤◌}
use Rattle.head.proofs.sectors.agf_of.Goals as goal

pub nonzero_rem-result : goal.nonzero_rem-result
nonzero_rem-result c = let h : 512 ≤ c.args.w.sector = sector-least _ c.requires.sector-is in omega (arith, c.saturating_sub-slots.ensures, h)

pub returns : goal.returns
unfolding cnt_block agfl_size
returns c = rw (c.pick-rmap_root.ensures, c.rmap_at.ensures.0, c.pick-refcount_root.ensures, c.refc_at.ensures.0, c.flag-rmap.ensures.0, c.flag-refc.ensures.0, c.saturating_sub-slots.ensures)
