-- What a function answers that writes into a lent buffer or reads from it: 0, or 27 where the bytes don't lie inside; then nothing has
-- changed.
-- Assumes nothing.
use Rattle.std.specs.Prelude.{◌≡◌, List, Bool, true, false, cond, ℕ, leb, length}
use Rattle.refusals.specs.Numbers.{wrong_length}

-- the first `m` bytes are there
abbrev pub room : ℕ → List ℕ → Bool
room m xs = leb m (length xs)

-- the number for a test of the length
abbrev pub answer : Bool → ℕ
answer true = 0
answer false = wrong_length

-- a value that was read, 0 where nothing was
abbrev pub valued : Bool → ℕ → ℕ
valued true v = v
valued false v = 0

-- A write of `new` over `old` that needs the first `m` bytes: its number, and what it leaves.
pub record Put (m : ℕ) (new old : List ℕ) (r : ℕ) (left : List ℕ) : Type 0 where
  pub number : r ≡ answer (room m old)
  pub bytes : left ≡ cond (room m old) new old

-- A read of `v` that needs the first `m` bytes: its number, and the value.
pub record Got (m v : ℕ) (old : List ℕ) (r value : ℕ) : Type 0 where
  pub number : r ≡ answer (room m old)
  pub read : value ≡ valued (room m old) v
