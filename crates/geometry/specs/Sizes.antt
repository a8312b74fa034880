-- Block, sector and inode size, and refusals 2 to 8.
-- Assumes nothing.
use Rattle.std.specs.Prelude.{List, [], ◌∷◌, ℕ, ◌/◌, max, ltb, leb, eqb, Option, unwrap_or}
use Rattle.refusals.specs.Numbers.{block_no_power, block_of512, block_too_large, bad_sector, block_below_sector, sector_below_logical, bad_inode}
use Rattle.arith.specs.Choice.{when}
use Rattle.arith.specs.Powers.{power_log}
use Rattle.refusals.specs.Table.{Refusal, ◌if◌}
use Rattle.geometry.specs.SizeLimits.{default_block, min_crc_block, max_supported_block, min_sector, max_sector, default_inode, max_inode}
use Rattle.params.specs.declared.Params.{Params}
use Rattle.geometry.specs.declared.sizes.Sizes.{Sizes}

abbrev pub block_of : Option ℕ → ℕ
block_of option = unwrap_or option default_block

-- the sector size where none is given: the larger of the physical and the logical sector,
-- but the logical one where the larger is above 32768, or where only the logical one fits the block
unfoldable pub default_sector : ℕ → ℕ → ℕ → ℕ
default_sector block logical physical =
    when (ltb max_sector (max physical logical)) logical
    (when (leb (max physical logical) block) (max physical logical)
    (when (leb logical block) logical (max physical logical)))

abbrev pub sector_of : Option ℕ → ℕ → ℕ → ℕ → ℕ
sector_of option block logical physical = unwrap_or option (default_sector block logical physical)

abbrev pub inode_of : Option ℕ → ℕ
inode_of option = unwrap_or option default_inode

-- the logical sector counts as 512 where it is smaller
unfoldable pub sizes_of : Params → ℕ → ℕ → Sizes
sizes_of p logical physical =
    let block = block_of p.block_size in
    let least = max logical min_sector in
    record {
      block = block;
      sector = sector_of p.sector_size block least physical;
      inode = inode_of p.inode_size;
      logical = least;
    }

-- refusals 2 to 8; `power_log` is 0 of a number that is no power of two from 512 to 65536
unfoldable pub sizes_refusals : ℕ → ℕ → ℕ → ℕ → List Refusal
sizes_refusals block sector inode logical =
    block_no_power if eqb (power_log block) 0
    ∷ block_of512 if ltb block min_crc_block
    ∷ block_too_large if ltb max_supported_block block
    ∷ bad_sector if eqb (power_log sector) 0
    ∷ bad_sector if ltb max_sector sector
    ∷ block_below_sector if ltb block sector
    ∷ sector_below_logical if ltb sector logical
    ∷ bad_inode if eqb (power_log inode) 0
    ∷ bad_inode if ltb max_inode inode
    ∷ bad_inode if ltb (block / 2) inode
    ∷ []
