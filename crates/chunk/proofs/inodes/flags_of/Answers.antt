-- `chunk::inodes::flags_of` meets its contract.
-- Assumes nothing.
use Rattle.arith.proofs.Laws.{bit_le}
use native.Mathlib.Omega.{arith}
use Rattle.chunk.specs.Inodes.{flags_of}
use Rattle.chunk.proofs.inodes.flags_of.Goals as goal

pub overflow_mul-result : goal.overflow_mul-result
overflow_mul-result c = omega (arith, c.bit_of.ensures, bit_le c.args.f.bigtime)

pub overflow_mul-result-2 : goal.overflow_mul-result-2
overflow_mul-result-2 c = omega (arith, c.bit_of-2.ensures, bit_le c.args.f.nrext64)

pub overflow_add-result : goal.overflow_add-result
overflow_add-result c = omega (arith, c.bit_of.ensures, bit_le c.args.f.bigtime, c.bit_of-2.ensures, bit_le c.args.f.nrext64)

pub returns : goal.returns
unfolding flags_of
returns c = rw (c.bit_of-2.ensures, c.bit_of.ensures)
