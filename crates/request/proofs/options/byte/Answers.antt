-- `request::options::byte` meets its contract.
-- Assumes nothing.
use Prim.Native.Nat.{ℕ, ◌<◌}
use Rattle.request.proofs.Copies.{holds-given}
use Rattle.request.proofs.options.byte.Goals as goal

pub overflow_cast-result : goal.overflow_cast-result
overflow_cast-result c = record { fits = holds-given (λ (n : ℕ). n < 256) _ _ c.in-Some.is c.requires }

pub returns-in-Some : goal.returns-in-Some
returns-in-Some c = cc
