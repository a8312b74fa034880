-- The sector size that a list of written records says in its first bytes, before anything of it is applied. A run's list begins with three
-- records of zeros, 18 bytes each, and the log's first block; then comes group 0's first block, which begins with the superblock.
-- Assumes nothing.
use Rattle.std.specs.Prelude.{Bool, ◌&&◌, cond, List, ℕ, ◌+◌, ◌*◌, leb, ltb, eqb, length}
use Rattle.list_read.specs.Records.{bytes_mark}
use Rattle.endian.specs.Bytes.{be_at}

-- XFSB
abbrev pub magic : ℕ
magic = 0x5846_5342

-- the length of the log's block, in the fourth record's head
abbrev pub block_in : List ℕ → ℕ
block_in xs = be_at 8 64 xs

-- behind a block of n bytes stands a record of bytes for the offset 0 that begins with a superblock
unfoldable pub begins_superblock : ℕ → List ℕ → Bool
begins_superblock n xs =
    (eqb (be_at 2 54 xs) bytes_mark && eqb (be_at 2 (72 + n) xs) bytes_mark) && (eqb (be_at 8 (74 + n) xs) 0 && eqb (be_at 4 (90 + n) xs) magic)

-- sb_sectsize of that superblock, 102 bytes behind its start; 0 where it isn't there
unfoldable pub sector_behind : ℕ → List ℕ → ℕ
sector_behind n xs = cond (leb n 16384 && leb (194 + n) (length xs)) (cond (begins_superblock n xs) (be_at 2 (192 + n) xs) 0) 0

-- the sector size that the bytes say, 0 where they say none
unfoldable pub sector_in : List ℕ → ℕ
sector_in xs = cond (ltb (length xs) 194) 0 (sector_behind (block_in xs) xs)

-- so many bytes of any list have it: three heads of 18 bytes, the log's record with the largest block, the head of the next, and 104 bytes
-- of the superblock
abbrev pub enough : ℕ
enough = 3 * 18 + (18 + 16384) + 18 + 104

-- it is smaller than the device's logical sector
unfoldable pub below_logical : List ℕ → ℕ → Bool
below_logical xs logical = ltb (sector_in xs) logical
