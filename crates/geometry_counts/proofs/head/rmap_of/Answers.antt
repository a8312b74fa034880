-- `geometry_counts::head::rmap_of` meets its contract: the header is at most four times the sector.
-- Assumes nothing.
use native.Mathlib.Omega.{arith}
use Rattle.arith.proofs.Laws.{bit_le}
use Rattle.geometry.proofs.Bit.{from-bit}
use Rattle.geometry.proofs.Header.{header-le}
use Rattle.geometry_layout.specs.Places.{rmap_block}
use Rattle.geometry_counts.proofs.head.rmap_of.Goals as goal

pub overflow_add-result : goal.overflow_add-result
overflow_add-result c = let a = c.args in omega (arith, header-le a.sector a.bs)

pub overflow_add-result-2 : goal.overflow_add-result-2
overflow_add-result-2 c = let a = c.args in omega (arith, header-le a.sector a.bs, from-bit a.f.finobt, bit_le a.f.finobt)

pub returns : goal.returns
unfolding rmap_block
returns c = cc (from-bit c.args.f.finobt)
