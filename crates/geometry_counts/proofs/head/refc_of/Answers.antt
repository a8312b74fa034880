-- `geometry_counts::head::refc_of` meets its contract: the header is at most four times the sector.
-- Assumes nothing.
use native.Mathlib.Omega.{arith}
use Rattle.arith.proofs.Laws.{bit_le}
use Rattle.geometry.proofs.Bit.{from-bit}
use Rattle.geometry.proofs.Header.{header-le}
use Rattle.geometry_layout.specs.Places.{rmap_block, refc_block}
use Rattle.geometry_counts.proofs.head.refc_of.Goals as goal

pub overflow_add-result : goal.overflow_add-result
unfolding rmap_block
overflow_add-result c = let a = c.args in
    omega (
      arith,
      header-le a.sector a.bs,
      bit_le a.f.finobt,
      from-bit a.f.rmapbt,
      bit_le a.f.rmapbt,
    )

pub returns : goal.returns
unfolding rmap_block refc_block
returns c = rw (c.from.ensures, from-bit c.args.f.rmapbt, c.rmap_of.ensures)
