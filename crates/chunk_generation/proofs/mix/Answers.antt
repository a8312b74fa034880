-- `chunk_generation::mix` meets its contract.
-- Assumes nothing.
use Rattle.std.proofs.Common.{ℕ, ◌*◌, ◌%◌, ◌^◌, ap, ◌∙◌}
use Rattle.chunk_generation.specs.Draw.{mixed}
use Rattle.chunk_generation.proofs.mix.Goals as goal

pub returns : goal.returns
unfolding mixed
returns c = c.wrapping_mul.ensures ∙ ap (λ (x : ℕ). x * c.args.factor % 2 ^ 64) c.fold.ensures
