-- `chunk_generation::wrapping::product` meets its contract.
-- Assumes nothing.
use Rattle.chunk_generation.proofs.Halves.{halves-fit}
use Rattle.chunk_generation.proofs.wrapping.product.Goals as goal

pub overflow_mul-result : goal.overflow_mul-result
overflow_mul-result c = record { fits = halves-fit c.args.a c.args.b c.requires.0 c.requires.1 }
