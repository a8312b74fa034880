-- The lengths that a lent sector, block or inode may have, where no geometry says it.
-- Assumes nothing.
use Rattle.std.specs.Prelude.{Bool, ◌||◌, ℕ, zero, suc, ◌^◌, eqb}

-- one of the powers of two from 2^k to 2^(k + c)
abbrev pub is_power : ℕ → ℕ → ℕ → Bool
is_power k zero n = eqb n (2 ^ k)
is_power k (suc c) n = eqb n (2 ^ k) || is_power (suc k) c n

-- a sector is a power of two from 512 to 32768 bytes
unfoldable pub is_sector : ℕ → Bool
is_sector n = is_power 9 6 n

-- a block is one from 1024 to 16384
unfoldable pub is_block : ℕ → Bool
is_block n = is_power 10 4 n

-- an inode is one from 512 to 2048
unfoldable pub is_inode : ℕ → Bool
is_inode n = is_power 9 2 n
