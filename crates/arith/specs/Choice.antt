-- Picking by a test.
-- Assumes nothing.
use Rattle.std.specs.Prelude.{Bool, true, false, not, ℕ}

-- n where the test holds, else the rest
unfoldable pub when : {A : Type 0} → Bool → A → A → A
when true n rest = n
when false n rest = rest

-- 1 of true, 0 of false
unfoldable pub bit : Bool → ℕ
bit true = 1
bit false = 0

-- both hold, or neither
abbrev pub same_bool : Bool → Bool → Bool
same_bool true b = b
same_bool false b = not b
