-- Feeding piece after piece, each through a buffer of the same size.
-- Assumes nothing.
use Rattle.std.specs.Prelude.{◌≡◌, List, ℕ}
use Rattle.seqs.specs.Lists.{fold}
use Rattle.list_apply.specs.declared.Applying.{Applying as State}
use Rattle.list_apply.specs.Applying.{ended, applying_fed}

-- the state after some pieces
abbrev pub fed_all : ℕ → State → List (List ℕ) → State
fed_all size a pieces = fold (λ (s : State) (xs : List ℕ). (applying_fed s xs size).applying) a pieces

-- b is the state after some pieces, from a on
pub record Fed (size : ℕ) (a b : State) : Type 0 where
  pub pieces : List (List ℕ)
  pub reached : b ≡ fed_all size a pieces

-- where the list ended as a list does, two flushes are past
abbrev pub TwoFlushesPast : State → Type 0
TwoFlushesPast a = a.stop ≡ ended → a.flushes ≡ 2
