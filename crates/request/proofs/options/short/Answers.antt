-- `request::options::short` meets its contract.
-- Assumes nothing.
use Prim.Native.Nat.{ℕ, ◌<◌}
use Rattle.request.proofs.Copies.{holds-given}
use Rattle.request.proofs.options.short.Goals as goal

pub overflow_cast-result : goal.overflow_cast-result
overflow_cast-result c = record { fits = holds-given (λ (n : ℕ). n < 4294967296) _ _ c.in-Some.is c.requires }

pub returns-in-Some : goal.returns-in-Some
returns-in-Some c = cc
