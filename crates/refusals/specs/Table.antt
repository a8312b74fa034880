-- A table of refusals: each number stands beside the test under which it is given.
-- Assumes nothing.
use Rattle.std.specs.Prelude.{Bool, ℕ, List, [], ◌∷◌}
use Rattle.arith.specs.Choice.{when}

-- a number that is given where a test holds
infix 68 ◌if◌
pub data Refusal : Type 0 where
  ◌if◌ : ℕ → Bool → Refusal

-- the first number of the table whose test holds, else the rest
abbrev pub first : List Refusal → ℕ → ℕ
first [] rest = rest
first ((n if test) ∷ table) rest = when test n (first table rest)
