-- Leaf blocks that hold a list of records.
-- Assumes nothing.
use Rattle.std.specs.Prelude.{List, ℕ, ◌*◌, ◌-◌, ◌^◌, leb, replicate}
use Rattle.refusals.specs.Numbers.{wrong_length, too_many_records}
use Rattle.structs.specs.Sizes.{is_block}
use Rattle.structs.specs.Written.{require}
use Rattle.btree.specs.declared.records.InobtRec.{InobtRec}
use Rattle.btree.specs.Leaf.{leaf_number}

-- 27 for a length that is no block's, 34 for more than 64 records, or for records that don't fit the block
unfoldable pub list_number : ℕ → ℕ → ℕ → ℕ
list_number size count len = require wrong_length (is_block len) (require too_many_records (leb count 64) (leaf_number (size * count) len))

-- the root chunk's record: 64 inodes, the first three in use
unfoldable pub chunk_rec : ℕ → InobtRec
chunk_rec startino = record { startino = startino; holemask = 0; count = 64; freecount = 61; free = 2 ^ 64 - 8 }

-- n records alike: none, or one
abbrev pub few : ℕ → InobtRec → List InobtRec
few n r = replicate n r
