-- The special owners of a reverse mapping: −3 to −8 in 64 bits, in two's complement.
-- Assumes nothing.
use Rattle.std.specs.Prelude.{List, [], ◌∷◌, ℕ, zero, suc, ◌-◌, ◌^◌}

-- −k in 64 bits
unfoldable pub negative : ℕ → ℕ
negative k = 2 ^ 64 - k

-- −k, −k − 1, and so on, `n` of them
abbrev pub negatives : ℕ → ℕ → List ℕ
negatives k zero = []
negatives k (suc n) = negative k ∷ negatives (suc k) n

-- header blocks, log, free space trees, inode trees, inodes, reference counts
unfoldable pub owners : List ℕ
owners = negatives 3 6
