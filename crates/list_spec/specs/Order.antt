-- The form of a run's list: where its records lie, how they follow each other, how many there are.
-- Assumes nothing.
use Rattle.std.specs.Prelude.{◌≡◌, ℕ, ◌*◌, ◌<◌, length}
use Rattle.run.specs.declared.Run.{Run}
use Rattle.list_records.specs.Records.{All, OneBlock, list_bytes, zeroings, block_writes, flushes, payload}
use Rattle.list_records.specs.Device.{InsideDevice, Rising}
use Rattle.list_spec.specs.Listing.{head_records, chunk_records, header_records, list_of, block_count, record_count, list_length}
use Rattle.list_spec.specs.Left.{head_at, chunk_offset}

pub record Ordered (run : Run) (device : ℕ) : Type 0 where
  -- every record begins at a multiple of the block size and lies inside the device; a WB has one block
  pub fits : All (InsideDevice run.geometry.blocksize device) (list_of run device)
  pub one_block : All (OneBlock run.geometry.blocksize) (list_of run device)
  -- the blocks of one write rise: each begins where the one before it ends
  pub head-rises : (k : ℕ) → k < run.geometry.agcount → Rising (head_at run k) (head_records run k)
  pub chunk-rises : Rising (chunk_offset run) (chunk_records run)
  pub header-rises : Rising 0 (header_records run)
  -- the number of records, and of their bytes in the list
  pub count : length (list_of run device) ≡ record_count run.geometry
  pub bytes : length (list_bytes (list_of run device)) ≡ list_length run.geometry
  -- three WZ, two FL, the rest WB; these carry a block each
  pub zeros-count : zeroings (list_of run device) ≡ 3
  pub flush-count : flushes (list_of run device) ≡ 2
  pub block-count : block_writes (list_of run device) ≡ block_count run.geometry
  pub carries : payload (list_of run device) ≡ block_count run.geometry * run.geometry.blocksize
