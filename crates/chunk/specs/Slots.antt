-- Slots of one length, one after the other: what the chunk is made of.
-- Assumes nothing.
use Rattle.std.specs.Prelude.{List, [], ◌++◌, ℕ, zero, suc, ◌+◌}
use Rattle.endian.specs.Bytes.{zeros}
use Rattle.inode.specs.Dinode.{free_bytes}

-- `n` slots, the first that of `i`
unfoldable pub slots : (ℕ → List ℕ) → ℕ → ℕ → List ℕ
slots f i zero = []
slots f i (suc n) = f i ++ slots f (suc i) n

-- slot `i` of a chunk, as it is before it is allocated: its number is the first inode's plus `i`, its generation the chunk's
abbrev pub free_slot : ℕ → ℕ → List ℕ → ℕ → ℕ → List ℕ
free_slot first generation uuid size i = free_bytes (first + i) generation uuid (zeros size)
