-- What the bytes of a head say of its group's blocks: definitions on the bytes and the geometry that the superblock names, nothing else.
-- Assumes nothing.
use Rattle.std.specs.Prelude.{List, [], ◌∷◌, ℕ, zero, suc, ◌*◌, ◌/◌, ◌%◌, ◌^◌, length, get_or, Option, Some, None}
use Rattle.endian.specs.Bytes.{be_at, numbers_at}
use Rattle.endian.specs.Fields.{part}
use Rattle.geometry.specs.declared.Geometry.{Geometry}
use Rattle.geometry_layout.specs.Limits.{agfl_header_size, agfl_slot}
use Rattle.geometry_layout.specs.Places.{agfl_size}
use Rattle.btree.specs.declared.records.AllocRec.{AllocRec}
use Rattle.btree.specs.Records.{alloc_size, inobt_size}
use Rattle.btree.specs.Leaf.{leaf_header_size}
use Rattle.btree.specs.Decode.{read_records, alloc_of}
use Rattle.ag.specs.declared.agf.Agf.{Agf}
use Rattle.ag.specs.declared.agi.Agi.{Agi}
use Rattle.ag.specs.Decode.{agf_of, agi_of}

-- ---- the parts of a head

-- its sectors: the superblock is sector 0, then AGF, AGI and free list
unfoldable pub sector_at : Geometry → ℕ → List ℕ → List ℕ
sector_at g i xs = part (i * g.sectsize) g.sectsize xs

-- its block b
unfoldable pub block_at : Geometry → ℕ → List ℕ → List ℕ
block_at g b xs = part (b * g.blocksize) g.blocksize xs

unfoldable pub agf_in : Geometry → List ℕ → Agf
agf_in g xs = agf_of (sector_at g 1 xs)

unfoldable pub agi_in : Geometry → List ℕ → Agi
agi_in g xs = agi_of (sector_at g 2 xs)

-- ---- the free list: its entries in use

-- n entries of a ring of slots, from slot `first` on, and around at the end
unfoldable pub entries : List ℕ → ℕ → ℕ → List ℕ
entries slots first zero = []
entries slots first (suc n) = get_or slots (first % length slots) 0 ∷ entries slots (suc first) n

-- the slots behind the header of the free list's sector
unfoldable pub slots_in : Geometry → List ℕ → List ℕ
slots_in g xs = numbers_at agfl_slot (agfl_size g.sectsize) agfl_header_size (sector_at g 3 xs)

-- the entries from the AGF's first on, as many as the AGF counts
unfoldable pub list_in : Geometry → List ℕ → List ℕ
list_in g xs = entries (slots_in g xs) (agf_in g xs).flfirst (agf_in g xs).flcount

-- ---- the records of the trees

-- bb_numrecs, the number of records of a leaf
unfoldable pub numrecs_in : List ℕ → ℕ
numrecs_in leaf = be_at 2 6 leaf

-- the records of a leaf, as many as its header counts, each of n bytes as `of` reads it
abbrev pub records_in : {A : Type 0} → (List ℕ → A) → ℕ → List ℕ → List A
records_in of n leaf = read_records of n (numrecs_in leaf) leaf_header_size leaf

-- free: the records of the tree by block, whose root the AGF names
unfoldable pub free_records_in : Geometry → List ℕ → List AllocRec
free_records_in g xs = records_in alloc_of alloc_size (block_at g (agf_in g xs).bno_root xs)

-- the first block of a chunk by its record in the inode tree: ir_startino, its first inode within the group, by inodes per block
unfoldable pub chunk_of_record : Geometry → List ℕ → ℕ
chunk_of_record g rec = be_at 4 0 rec / g.inopblock

-- the chunks: the records of the inode tree, whose root the AGI names
unfoldable pub chunks_in : Geometry → List ℕ → List ℕ
chunks_in g xs = records_in (chunk_of_record g) inobt_size (block_at g (agi_in g xs).root xs)

-- ---- the superblock

-- the log: its group, its first block there, and how many blocks it has
pub record LogRun : Type 0 where
  pub group : ℕ
  pub at : ℕ
  pub blocks : ℕ

-- by log start, sb_logstart, a file system block, and length, sb_logblocks
unfoldable pub log_run_in : Geometry → List ℕ → LogRun
log_run_in g xs = record { group = be_at 8 48 xs / 2 ^ g.agblklog; at = be_at 8 48 xs % 2 ^ g.agblklog; blocks = be_at 4 96 xs }

-- the free count, sb_fdblocks
unfoldable pub count_in : List ℕ → ℕ
count_in xs = be_at 8 144 xs

-- ---- beside them, the chunk of a plan as a list: none, or its first block
unfoldable pub chunk_list : Option ℕ → List ℕ
chunk_list None = []
chunk_list (Some c) = c ∷ []
