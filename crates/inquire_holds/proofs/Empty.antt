-- An empty input is no disk for `inquire`: 28.
-- Assumes nothing.
use mathlib.Core.Path.{◌≡◌, refl}
use mathlib.Core.List.{[]}
use Prim.Native.Nat.{ℕ}
use Rattle.refusals.specs.Numbers.{malformed}
use Rattle.run.proofs.Accepted.{empty-malformed}
use Rattle.inquire_holds.specs.Calls.{opened_of, holds_opened}

pub empty-opened : (k : ℕ) → (holds_opened [] k).number ≡ malformed
unfolding holds_opened opened_of
empty-opened k = rw empty-malformed refl
