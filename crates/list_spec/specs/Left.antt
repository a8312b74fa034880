-- What a run leaves on a device, whatever stood there, and which of its records touch a head.
-- Assumes nothing.
use Rattle.std.specs.Prelude.{◌≡◌, List, ◌++◌, ◌⊎◌, ℕ, ◌+◌, ◌*◌, ◌-◌, ◌<◌, ◌≤◌, take, drop}
use Rattle.endian.specs.Bytes.{zeros}
use Rattle.geometry_layout.specs.Places.{byte_of}
use Rattle.geometry_places.specs.Answers.{root_chunk}
use Rattle.chunk.specs.Chunk.{chunk_bytes}
use Rattle.run.specs.declared.Run.{Run}
use Rattle.list_records.specs.Records.{Record, Wb, All}
use Rattle.list_records.specs.Device.{Device, read, Misses}
use Rattle.list_spec.specs.Listing.{whack_size, blocks_end, tail_start, head_blocks, header_blocks, chunk_blocks, log_offset, log_block, head_written, head_finished, head_left, opening, head_records, heads_to, chunk_records, closing}

-- ---- where the parts lie, in bytes

abbrev pub head_at : Run → ℕ → ℕ
head_at run k = byte_of run.geometry.blocksize run.geometry.agsize k 0

abbrev pub head_bytes_of : Run → ℕ
head_bytes_of run = head_blocks run.geometry * run.geometry.blocksize

abbrev pub header_bytes_of : Run → ℕ
header_bytes_of run = header_blocks run.geometry * run.geometry.blocksize

abbrev pub log_size : Run → ℕ
log_size run = run.geometry.logblocks * run.geometry.blocksize

abbrev pub chunk_offset : Run → ℕ
chunk_offset run = byte_of run.geometry.blocksize run.geometry.agsize 0 (root_chunk run.geometry)

abbrev pub chunk_bytes_of : Run → ℕ
chunk_bytes_of run = chunk_blocks run.geometry * run.geometry.blocksize

-- ---- what stands on the device after the whole list
pub record DeviceLeft (run : Run) (device : ℕ) (d : Device) : Type 0 where
  -- in every group its head: group 0's with the finished superblock
  pub head : (k : ℕ) → k < run.geometry.agcount → read d (head_at run k) (head_bytes_of run) ≡ head_left run.geometry run.uuid k
  -- the log's first block, and zeros behind it
  pub log : read d (log_offset run.geometry) run.geometry.blocksize ≡ log_block run.geometry run.uuid
  pub log-rest : read d (log_offset run.geometry + run.geometry.blocksize) (log_size run - run.geometry.blocksize)
      ≡ zeros (log_size run - run.geometry.blocksize)
  -- the root chunk
  pub chunk : read d (chunk_offset run) (chunk_bytes_of run)
      ≡ chunk_bytes run.geometry (root_chunk run.geometry) run.uuid run.time run.seed
  -- zeros at the start of the device, where neither group 0's head nor the root chunk lies, and at its end
  pub start : (off n : ℕ) → head_bytes_of run ≤ off → off + n ≤ whack_size
      → (off + n ≤ chunk_offset run) ⊎ (chunk_offset run + chunk_bytes_of run ≤ off) → read d off n ≡ zeros n
  pub end : read d (tail_start run.geometry.blocksize device)
      (blocks_end run.geometry.blocksize device - tail_start run.geometry.blocksize device)
      ≡ zeros (blocks_end run.geometry.blocksize device - tail_start run.geometry.blocksize device)

-- ---- which records touch group k's head: its own alone, and in group 0 also the first zeros and the finished header blocks
pub record OwnRecords (run : Run) (device k : ℕ) : Type 0 where
  pub opening-first : 0 < k → All (Misses (head_at run k) (head_bytes_of run)) (take 1 (opening run device))
  pub opening-rest : All (Misses (head_at run k) (head_bytes_of run)) (drop 1 (opening run device))
  pub heads : (j : ℕ) → (j ≡ k → ⊥) → All (Misses (head_at run k) (head_bytes_of run)) (head_records run j)
  pub chunk : All (Misses (head_at run k) (head_bytes_of run)) (chunk_records run)
  pub closing : 0 < k → All (Misses (head_at run k) (head_bytes_of run)) (closing run)

-- ---- until the finished superblock

-- the records before the first flush
unfoldable pub unfinished : Run → ℕ → List Record
unfinished run device = opening run device ++ (heads_to run run.geometry.agcount ++ chunk_records run)

-- the record that finishes a run: group 0's first block, with the finished superblock
abbrev pub finishing_record : Run → Record
finishing_record run = Wb 0 (take run.geometry.blocksize (head_finished run.geometry run.uuid))

-- group 0's first block is zeros, or the unfinished one
abbrev pub FirstBlockUnfinished : Run → Device → Type 0
FirstBlockUnfinished run d =
    (read d 0 run.geometry.blocksize ≡ zeros run.geometry.blocksize)
    ⊎ (read d 0 run.geometry.blocksize ≡ take run.geometry.blocksize (head_written run.geometry run.uuid 0))
