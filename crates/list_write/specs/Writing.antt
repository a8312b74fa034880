-- A run's list written piece by piece: the bytes that each piece is split from, and the code's parts.
-- Assumes nothing.
use Rattle.std.specs.Prelude.{cond, List, ◌++◌, ℕ, ◌+◌, ◌-◌, min, leb, eqb}
use Rattle.endian.specs.Bytes.{be_bytes}
use Rattle.run.specs.declared.Run.{Run}
use Rattle.list_records.specs.Records.{WZ, record_bytes}
use Rattle.geometry_places.specs.Answers.{root_chunk}
use Rattle.chunk.specs.Chunk.{chunk_bytes}
use Rattle.list_spec.specs.Listing.{whack_size, blocks_end, tail_start, log_block, head_written, head_finished}

-- the part that piece k is split from: the log's first block, a head, the root chunk, and the head of group 0 with the finished superblock
unfoldable pub part_bytes : Run → ℕ → List ℕ
part_bytes run k =
    cond (eqb k 0) (log_block run.geometry run.uuid)
    (cond (leb k run.geometry.agcount) (head_written run.geometry run.uuid (k - 1))
    (cond (eqb k (run.geometry.agcount + 1))
    (chunk_bytes run.geometry (root_chunk run.geometry) run.uuid run.time run.seed)
    (head_finished run.geometry run.uuid)))

-- ---- the code's parts

-- a record before its bytes: mark, offset, length
unfoldable pub record_head : ℕ → ℕ → ℕ → List ℕ
record_head mark offset n = be_bytes 2 mark ++ (be_bytes 8 offset ++ be_bytes 8 n)

-- the records of zeros of a device, over its start, its end, and n bytes of the log
unfoldable pub zero_heads : ℕ → ℕ → ℕ → ℕ → List ℕ
zero_heads bs device log n =
    record_bytes (WZ 0 (min whack_size (blocks_end bs device)))
    ++ (record_bytes (WZ (tail_start bs device) (blocks_end bs device - tail_start bs device)) ++ record_bytes (WZ log n))
