-- How many blocks the parts of a run have, and how many bytes each piece of its list and the part that it is split from.
-- Assumes nothing.
use Rattle.std.specs.Prelude.{ℕ, ◌+◌, ◌*◌, leb, eqb}
use Rattle.arith.specs.Choice.{when}
use Rattle.params.specs.declared.Features.{Features}
use Rattle.geometry.specs.Log.{header_of, prealloc_of}
use Rattle.geometry_layout.specs.Places.{chunk_of}
use Rattle.list_lengths.specs.declared.parts.Sizes.{Sizes}

-- bytes of a block; blocks of the four header sectors, of a head, and of the root chunk, for these features and sizes
abbrev pub list_sizes : Features → ℕ → ℕ → ℕ → Sizes
list_sizes f sector inode bs =
    record {
      block = bs;
      header = header_of sector bs;
      head = prealloc_of f sector bs;
      chunk = chunk_of inode bs;
    }

-- a flush is its mark
abbrev pub flush_size : ℕ
flush_size = 2

-- a mark and two numbers of 8 bytes
abbrev pub record_head_size : ℕ
record_head_size = 18

-- n records of one block each
unfoldable pub blocks_length : ℕ → ℕ → ℕ
blocks_length bs n = n * (record_head_size + bs)

-- piece k of so many groups: three records of zeros and the log's first block; a head; the root chunk; two flushes and the header blocks
unfoldable pub piece_list_length : Sizes → ℕ → ℕ → ℕ
piece_list_length s groups k =
    when (eqb k 0) (3 * record_head_size + blocks_length s.block 1)
    (when (leb k groups) (blocks_length s.block s.head)
    (when (eqb k (groups + 1)) (blocks_length s.block s.chunk) (flush_size + blocks_length s.block s.header + flush_size)))

-- the part that piece k is split from: the log's first block, the root chunk, or a head
unfoldable pub split_part : Sizes → ℕ → ℕ → ℕ
split_part s groups k = when (eqb k 0) s.block (when (eqb k (groups + 1)) (s.chunk * s.block) (s.head * s.block))
