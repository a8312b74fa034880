-- `geometry::log_size::prealloc_of` meets its contract: the header is at most four times the sector, and each bit at most 1, so the sums fit.
-- Assumes nothing.
use native.Mathlib.Omega.{arith}
use Rattle.arith.proofs.Laws.{bit_le}
use Rattle.geometry.specs.Log.{prealloc_of}
use Rattle.geometry.proofs.Bit.{from-bit}
use Rattle.geometry.proofs.Header.{header-le}
use Rattle.geometry.proofs.log_size.prealloc_of.Goals as goal

pub overflow_add-result : goal.overflow_add-result
overflow_add-result c = let a = c.args in
    omega (arith, header-le a.sector a.bs)

pub overflow_add-result-2 : goal.overflow_add-result-2
overflow_add-result-2 c = let a = c.args in
    omega (arith, header-le a.sector a.bs, from-bit a.f.finobt, bit_le a.f.finobt)

pub overflow_add-result-3 : goal.overflow_add-result-3
overflow_add-result-3 c = let a = c.args in
    omega (arith, header-le a.sector a.bs, from-bit a.f.finobt, bit_le a.f.finobt, from-bit a.f.rmapbt, bit_le a.f.rmapbt)

pub overflow_add-result-4 : goal.overflow_add-result-4
overflow_add-result-4 c = let a = c.args in
    omega (arith, header-le a.sector a.bs, from-bit a.f.finobt, bit_le a.f.finobt, from-bit a.f.rmapbt, bit_le a.f.rmapbt, from-bit a.f.reflink, bit_le a.f.reflink)

pub returns : goal.returns
unfolding prealloc_of
returns c = let f = c.args.f in
    rw (
      c.from-3.ensures,
      c.from-2.ensures,
      c.from.ensures,
      from-bit f.reflink,
      from-bit f.rmapbt,
      from-bit f.finobt,
      c.header_of-header.ensures,
    )
