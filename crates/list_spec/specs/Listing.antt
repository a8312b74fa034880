-- The whole list of an accepted run on a device of so many bytes, in the order of the Rust's format.
-- Assumes nothing.
use Rattle.std.specs.Prelude.{cond, List, [], ◌∷◌, ◌++◌, ℕ, zero, suc, ◌+◌, ◌*◌, ◌-◌, ◌/◌, ◌^◌, min, ltb, leb, eqb, length}
use Rattle.endian.specs.Bytes.{zeros}
use Rattle.arith.specs.Choice.{when}
use Rattle.geometry.specs.declared.Geometry.{Geometry}
use Rattle.geometry.specs.Log.{header_of, prealloc_of}
use Rattle.geometry_layout.specs.Places.{chunk_of, lsunit_bytes, logsunit_of, byte_of}
use Rattle.geometry_places.specs.Answers.{root_chunk}
use Rattle.log_record.specs.Record.{clear_sunit}
use Rattle.log_record.specs.Record.{log_record_bytes as log_record}
use Rattle.plan.specs.Plan.{planned}
use Rattle.head_bytes.specs.Head.{head_bytes}
use Rattle.chunk.specs.Chunk.{chunk_bytes}
use Rattle.sb_states.specs.States.{state_of, finished_state}
use Rattle.run.specs.declared.Run.{Run}
use Rattle.list_records.specs.Records.{Record, WZ, Wb, FL, block_records}

-- ---- the device's ends: whole blocks only

-- WHACK_SIZE: so much is zeroed at each end
abbrev pub whack_size : ℕ
whack_size = 131072

-- where the whole blocks end
unfoldable pub blocks_end : ℕ → ℕ → ℕ
blocks_end bs device = device / bs * bs

-- where the zeros at the end begin
unfoldable pub tail_start : ℕ → ℕ → ℕ
tail_start bs device = (blocks_end bs device - whack_size) / bs * bs

-- ---- the log

unfoldable pub log_offset : Geometry → ℕ
log_offset g = byte_of g.blocksize g.agsize g.logagno g.log_agbno

-- the stripe unit that it is cleared with: the log's sector counts only where a sector is above 512 bytes
unfoldable pub log_unit : Geometry → ℕ
log_unit g = clear_sunit (logsunit_of (lsunit_bytes g.lsectsize g.blocksize)) (when (ltb 512 g.sectsize) g.lsectsize 0)

-- a record at cycle 1, block 0
unfoldable pub first_record : Geometry → List ℕ → List ℕ
first_record g uuid = log_record uuid (log_unit g) (2 ^ 32) (2 ^ 32)

-- its first block: the record, and zeros
unfoldable pub log_block : Geometry → List ℕ → List ℕ
log_block g uuid = first_record g uuid ++ zeros (g.blocksize - length (first_record g uuid))

-- ---- heads and root chunk

abbrev pub head_blocks : Geometry → ℕ
head_blocks g = prealloc_of g.features g.sectsize g.blocksize

abbrev pub header_blocks : Geometry → ℕ
header_blocks g = header_of g.sectsize g.blocksize

abbrev pub chunk_blocks : Geometry → ℕ
chunk_blocks g = chunk_of g.inodesize g.blocksize

-- group k's head as it is written first: group 0's superblock is unfinished
unfoldable pub head_written : Geometry → List ℕ → ℕ → List ℕ
head_written g uuid k = head_bytes g (planned g k).plan uuid (state_of g uuid k)

-- group 0's head with the finished superblock
unfoldable pub head_finished : Geometry → List ℕ → List ℕ
head_finished g uuid = head_bytes g (planned g 0).plan uuid (finished_state g uuid)

-- ---- the list, in chunks

-- zeros at the start and the end of the device and over the log, and the log's first block
unfoldable pub opening : Run → ℕ → List Record
opening run device =
    WZ 0 (min whack_size (blocks_end run.geometry.blocksize device))
    ∷ WZ (tail_start run.geometry.blocksize device)
    (blocks_end run.geometry.blocksize device - tail_start run.geometry.blocksize device)
    ∷ WZ (log_offset run.geometry) (run.geometry.logblocks * run.geometry.blocksize)
    ∷ Wb (log_offset run.geometry) (log_block run.geometry run.uuid)
    ∷ []

-- the head of group k
unfoldable pub head_records : Run → ℕ → List Record
head_records run k =
    block_records run.geometry.blocksize (byte_of run.geometry.blocksize run.geometry.agsize k 0) (head_blocks run.geometry)
    (head_written run.geometry run.uuid k)

-- the heads of the first n groups
unfoldable pub heads_to : Run → ℕ → List Record
heads_to run zero = []
heads_to run (suc n) = heads_to run n ++ head_records run n

-- the root chunk, in group 0
unfoldable pub chunk_records : Run → List Record
chunk_records run =
    block_records run.geometry.blocksize (byte_of run.geometry.blocksize run.geometry.agsize 0 (root_chunk run.geometry))
    (chunk_blocks run.geometry)
    (chunk_bytes run.geometry (root_chunk run.geometry) run.uuid run.time run.seed)

-- the header blocks of group 0 again, with the finished superblock
abbrev pub header_records : Run → List Record
header_records run = block_records run.geometry.blocksize 0 (header_blocks run.geometry) (head_finished run.geometry run.uuid)

-- a flush, these, and a flush
unfoldable pub closing : Run → List Record
closing run = FL ∷ (header_records run ++ (FL ∷ []))

-- the whole list
unfoldable pub list_of : Run → ℕ → List Record
list_of run device = opening run device ++ (heads_to run run.geometry.agcount ++ (chunk_records run ++ closing run))

-- ---- the same by its chunks: opening, one head for each group, root chunk, closing

unfoldable pub piece_count : Run → ℕ
piece_count run = run.geometry.agcount + 3

unfoldable pub list_piece : Run → ℕ → ℕ → List Record
list_piece run device k =
    cond (eqb k 0) (opening run device)
    (cond (leb k run.geometry.agcount) (head_records run (k - 1))
    (cond (eqb k (run.geometry.agcount + 1)) (chunk_records run) (closing run)))

-- the first n chunks, one after the other
unfoldable pub pieces_to : Run → ℕ → ℕ → List Record
pieces_to run device zero = []
pieces_to run device (suc n) = pieces_to run device n ++ list_piece run device n

-- ---- how many records

-- a Wb for the log block and for each block of heads, root chunk and header blocks
unfoldable pub block_count : Geometry → ℕ
block_count g = 1 + g.agcount * head_blocks g + chunk_blocks g + header_blocks g

-- three WZ, these, and two FL
unfoldable pub record_count : Geometry → ℕ
record_count g = 6 + g.agcount * head_blocks g + chunk_blocks g + header_blocks g

-- how many bytes: 18 for each WZ, 2 for each FL, and for each Wb 18 and a block's
unfoldable pub list_length : Geometry → ℕ
list_length g = 3 * 18 + 2 * 2 + block_count g * (18 + g.blocksize)

-- ---- what a finished run leaves

-- in group k's head: group 0's has the finished superblock
unfoldable pub head_left : Geometry → List ℕ → ℕ → List ℕ
head_left g uuid k = cond (eqb k 0) (head_finished g uuid) (head_written g uuid k)
