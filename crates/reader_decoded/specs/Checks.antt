-- The checksums that stand in a head.
-- Assumes nothing.
use Rattle.std.specs.Prelude.{◌≡◌, true, List, ℕ, ◌<◌, ◌≤◌}
use Rattle.crc.specs.Crc.{verified}
use Rattle.geometry.specs.declared.Geometry.{Geometry}
use Rattle.geometry.specs.Log.{header_of, prealloc_of}
use Rattle.reader_decoded.specs.Decoded.{sector_at, block_at}

-- Every checksum of a head verifies, at its structure's place: superblock, AGF, AGI and free list in their sectors, and each root in its
-- block.
pub record Checked (g : Geometry) (head : List ℕ) : Type 0 where
  pub superblock : verified 224 (sector_at g 0 head) ≡ true  -- sb_crc
  pub agf : verified 216 (sector_at g 1 head) ≡ true  -- agf_crc
  pub agi : verified 312 (sector_at g 2 head) ≡ true  -- agi_crc
  pub list : verified 32 (sector_at g 3 head) ≡ true  -- agfl_crc
  -- bb_crc
  pub roots : (b : ℕ) → header_of g.sectsize g.blocksize ≤ b → b < prealloc_of g.features g.sectsize g.blocksize
      → verified 52 (block_at g b head) ≡ true
