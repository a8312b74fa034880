-- `list_lengths::parts::blocks_length` meets its contract.
-- Assumes nothing.
use mathlib.Core.Path.{refl}
use native.Mathlib.Omega.{arith}
use Rattle.list_lengths.specs.Lengths.{blocks_length}
use Rattle.list_lengths.proofs.parts.blocks_length.Goals as goal

pub overflow_mul-result : goal.overflow_mul-result
unfolding blocks_length
overflow_mul-result c = omega (arith, c.requires.1)

pub returns : goal.returns
unfolding blocks_length
returns c = refl
