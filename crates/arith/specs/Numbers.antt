-- Quotients.
-- Assumes nothing.
use Rattle.std.specs.Prelude.{not, ℕ, ◌+◌, ◌/◌, ◌%◌, eqb}
use Rattle.arith.specs.Choice.{bit}

-- a / b, rounded up
unfoldable pub ceil_div : ℕ → ℕ → ℕ
ceil_div a b = a / b + bit (not (eqb (a % b) 0))
