-- What the geometry's bounds and the lengths of its parts give a run on a device; every accepted run has it.
-- Assumes nothing.
use Rattle.std.specs.Prelude.{◌≡◌, ℕ, ◌+◌, ◌*◌, ◌-◌, ◌<◌, ◌≤◌, length, get_or}
use Rattle.geometry.specs.Limits.{min_group_bytes, realistic_log_bytes}
use Rattle.geometry_places.specs.Answers.{root_chunk}
use Rattle.chunk.specs.Chunk.{chunk_bytes}
use Rattle.run.specs.declared.Run.{Run}
use Rattle.list_spec.specs.Listing.{head_blocks, header_blocks, chunk_blocks, log_block, head_written, head_finished}

pub record SoundRun (run : Run) (device : ℕ) : Type 0 where
  pub block-least : 1024 ≤ run.geometry.blocksize
  pub block-most : run.geometry.blocksize ≤ 16384
  pub large : 314572800 ≤ device + 16384
  pub two : 2 ≤ run.geometry.agcount
  pub header-some : 0 < header_blocks run.geometry
  pub header-head : header_blocks run.geometry ≤ head_blocks run.geometry
  pub head-room : head_blocks run.geometry ≤ run.geometry.agsize
  pub log-not-first : 0 < run.geometry.logagno
  pub log-group : run.geometry.logagno < run.geometry.agcount
  pub log-some : 0 < run.geometry.logblocks
  pub log-after : head_blocks run.geometry ≤ run.geometry.log_agbno
  pub log-room : run.geometry.log_agbno + run.geometry.logblocks ≤ run.geometry.agsize
  pub chunk-after : head_blocks run.geometry ≤ root_chunk run.geometry
  pub chunk-room : root_chunk run.geometry + chunk_blocks run.geometry ≤ run.geometry.agsize
  -- the last group holds its head, the disk the log and group 0, and the device every block
  pub last-room : (run.geometry.agcount - 1) * run.geometry.agsize + head_blocks run.geometry ≤ run.geometry.dblocks
  pub log-inside : run.geometry.logagno * run.geometry.agsize + run.geometry.log_agbno + run.geometry.logblocks
      ≤ run.geometry.dblocks
  pub first-inside : run.geometry.agsize ≤ run.geometry.dblocks
  pub inside : run.geometry.dblocks * run.geometry.blocksize ≤ device
  -- a head has at most 10 blocks; every group, the last too, at least 16 MiB, and the log 64
  pub head-most : head_blocks run.geometry ≤ 10
  pub group-least : min_group_bytes ≤ run.geometry.agsize * run.geometry.blocksize
  pub last-least : min_group_bytes ≤ (run.geometry.dblocks - (run.geometry.agcount - 1) * run.geometry.agsize)
      * run.geometry.blocksize
  pub log-least : realistic_log_bytes ≤ run.geometry.logblocks * run.geometry.blocksize
  -- every part has its blocks
  pub head-long : (k : ℕ) → k < run.geometry.agcount
      → length (head_written run.geometry run.uuid k) ≡ head_blocks run.geometry * run.geometry.blocksize
  pub finished-long : length (head_finished run.geometry run.uuid) ≡ head_blocks run.geometry * run.geometry.blocksize
  pub log-long : length (log_block run.geometry run.uuid) ≡ run.geometry.blocksize
  pub chunk-long : length (chunk_bytes run.geometry (root_chunk run.geometry) run.uuid run.time run.seed)
      ≡ chunk_blocks run.geometry * run.geometry.blocksize
  -- the finished head differs from the one written first in the first block alone
  pub agrees : (i : ℕ) → run.geometry.blocksize ≤ i
      → get_or (head_finished run.geometry run.uuid) i 0 ≡ get_or (head_written run.geometry run.uuid 0) i 0
