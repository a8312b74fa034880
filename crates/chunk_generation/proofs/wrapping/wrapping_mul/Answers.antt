-- `chunk_generation::wrapping::wrapping_mul` meets its contract.
-- Assumes nothing.
use Rattle.std.proofs.Common.{◌∙◌}
use Rattle.chunk_generation.proofs.Halves.{wrapped}
use Rattle.chunk_generation.proofs.wrapping.wrapping_mul.Goals as goal

pub returns : goal.returns
returns c = let a = c.args in
    c.wrapping_add_u64.ensures.value
    ∙ wrapped a.a a.b _ _ _ c.product-low.ensures c.product-left.ensures c.product-right.ensures
