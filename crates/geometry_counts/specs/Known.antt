-- What a function of a geometry answers: the value, or the number of the refusal.
-- Assumes nothing.
use Rattle.std.specs.Prelude.{Bool, true, false, ℕ, Result, Ok, Err}
use Rattle.refusals.specs.Numbers.{no_answer}

-- the number of a refusal, 0 of an answer
abbrev pub number_in : {A : Type 0} → Result A ℕ → ℕ
number_in (Err n) = n
number_in (Ok v) = 0

-- the value of an answer, 0 of a refusal
abbrev pub value_in : Result ℕ ℕ → ℕ
value_in (Err n) = 0
value_in (Ok v) = v

-- the value where the geometry is an answer, else 31
unfoldable pub known : {A : Type 0} → Bool → A → Result A ℕ
known true v = Ok v
known false v = Err no_answer
