-- The bytes of the root chunk, and the numbers of its refusals.
-- Assumes nothing.
use Rattle.std.specs.Prelude.{◌≡◌, Bool, not, List, [], ◌∷◌, ◌++◌, ℕ, ◌+◌, ◌*◌, leb, eqb}
use Rattle.refusals.specs.Numbers.{no_answer, time_out_of_range, wrong_length, no_place}
use Rattle.refusals.specs.Table.{◌if◌}
use Rattle.refusals.specs.Table as table
use Rattle.crc.specs.Right.{spaced}
use Rattle.structs.specs.Encoded.{Encoded}
use Rattle.params.specs.declared.Timestamp.{Timestamp}
use Rattle.inode.specs.Dinode.{inode_crc_at, dinode_bytes}
use Rattle.inode.specs.Directory.{empty_dir}
use Rattle.inode_time.specs.Time.{time_inside, value_if}
use Rattle.geometry.specs.declared.Geometry.{Geometry}
use Rattle.geometry_answers.specs.Named.{is_answer}
use Rattle.geometry_layout.specs.Places.{group_blocks, ino_of, chunk_of}
use Rattle.chunk_generation.specs.declared.Drawn.{Drawn}
use Rattle.chunk_generation.specs.Draw.{drawn}
use Rattle.chunk.specs.Slots.{slots, free_slot}
use Rattle.chunk.specs.Inodes.{new_bitmap, flags_of, no_time, root_inode, file_inode}

-- ---- generations: drawn in the order chunk, bitmap inode, summary inode

abbrev pub chunk_draw : ℕ → Drawn
chunk_draw seed = drawn seed

abbrev pub bitmap_draw : ℕ → Drawn
bitmap_draw seed = drawn (chunk_draw seed).state

abbrev pub summary_draw : ℕ → Drawn
summary_draw seed = drawn (bitmap_draw seed).state

-- the three generations, and the state after them
pub record DrawnAs (seed chunk bitmap summary state : ℕ) : Type 0 where
  pub chunk-is : chunk ≡ (chunk_draw seed).value
  pub bitmap-is : bitmap ≡ (bitmap_draw seed).value
  pub summary-is : summary ≡ (summary_draw seed).value
  pub state-is : state ≡ (summary_draw seed).state

-- ---- the chunk: its inodes in use are written over free ones, and the others stay free

-- the root directory over a slot
abbrev pub root_over : ℕ → ℕ → Timestamp → List ℕ → List ℕ → List ℕ
root_over first flags2 time uuid xs = dinode_bytes (root_inode first flags2 time) (empty_dir first) uuid xs

-- the realtime bitmap: its access time is a counter, at 0
abbrev pub bitmap_over : ℕ → ℕ → ℕ → Timestamp → List ℕ → List ℕ → List ℕ
bitmap_over first flags2 generation time uuid xs = dinode_bytes (file_inode (first + 1) new_bitmap flags2 generation no_time time) [] uuid xs

-- the realtime summary
abbrev pub summary_over : ℕ → ℕ → ℕ → Timestamp → List ℕ → List ℕ → List ℕ
summary_over first flags2 generation time uuid xs = dinode_bytes (file_inode (first + 2) 0 flags2 generation time time) [] uuid xs

-- 64 inodes of `size` bytes, the root directory first
unfoldable pub contents : ℕ → ℕ → ℕ → Timestamp → List ℕ → ℕ → List ℕ
contents first size flags2 time uuid seed =
    root_over first flags2 time uuid (free_slot first (chunk_draw seed).value uuid size 0)
    ++ (bitmap_over first flags2 (bitmap_draw seed).value time uuid (free_slot first (chunk_draw seed).value uuid size 1)
    ++ (summary_over first flags2 (summary_draw seed).value time uuid (free_slot first (chunk_draw seed).value uuid size 2)
    ++ slots (free_slot first (chunk_draw seed).value uuid size) 3 61))

-- the chunk that starts at block `agbno` of group 0
unfoldable pub chunk_bytes : Geometry → ℕ → List ℕ → Timestamp → ℕ → List ℕ
chunk_bytes g agbno uuid time seed =
    contents (ino_of g.agblklog g.inopblog 0 agbno 0) g.inodesize (flags_of g.features) time uuid seed

-- bytes of a chunk: its blocks, each of the block size
unfoldable pub chunk_length : Geometry → ℕ
chunk_length g = chunk_of g.inodesize g.blocksize * g.blocksize

-- 31 for a geometry that is no answer, 26 for a time that its inodes can't store, 27 for another length, and 29 where a block of the
-- chunk is none of group 0: every inode of the chunk has its number by its block
unfoldable pub chunk_number : Geometry → ℕ → Timestamp → ℕ → ℕ
chunk_number g agbno time len =
    table.first
    (no_answer if not (is_answer g)
    ∷ time_out_of_range if not (time_inside g.features.bigtime time.secs time.nsecs)
    ∷ wrong_length if not (eqb len (chunk_length g))
    ∷ no_place if not (leb (agbno + chunk_of g.inodesize g.blocksize) (group_blocks g.dblocks g.agsize g.agcount 0))
    ∷ []) 0

-- where the checksums of the chunk's 64 inodes stand
unfoldable pub chunk_places : ℕ → List ℕ
chunk_places size = spaced inode_crc_at size 64

-- What `root_chunk` answers and leaves: the number and the bytes, whether its checksums, at the places `sums`, stood there already, and the
-- state after the draws, 0 beside a refusal.
pub record ChunkMade (n next : ℕ) (sums new old : List ℕ) (number state : ℕ) (right : Bool) (left : List ℕ) : Type 0 where
  pub encoded : Encoded n sums new old number right left
  pub state-is : state ≡ value_if (eqb n 0) next
