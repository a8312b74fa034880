-- `chunk_generation::fold` meets its contract.
-- Assumes nothing.
use Rattle.std.proofs.Common.{refl}
use Rattle.chunk_generation.specs.Draw.{folded}
use Rattle.chunk_generation.proofs.fold.Goals as goal

pub returns : goal.returns
unfolding folded
returns c = refl
