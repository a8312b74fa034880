-- What an encoder answers and leaves: 0 and the bytes of the structure, or the first number that applies, and then every byte as it was.
-- Assumes nothing.
use Rattle.std.specs.Prelude.{◌≡◌, List, Bool, true, false, cond, ℕ, eqb}

-- no block or inode of a group (NULLAGBLOCK, NULLAGINO); no inode (NULLFSINO)
abbrev pub null32 : ℕ
null32 = 0xffff_ffff

abbrev pub null64 : ℕ
null64 = 0xffff_ffff_ffff_ffff

-- the number of a test that fails, and where it holds what follows
abbrev pub require : ℕ → Bool → ℕ → ℕ
require n true rest = rest
require n false rest = n

-- An encoder with the number `n` wrote `new` over `old`, or nothing.
pub record Written (n : ℕ) (new old : List ℕ) (r : ℕ) (left : List ℕ) : Type 0 where
  pub number : r ≡ n
  pub bytes : left ≡ cond (eqb n 0) new old
