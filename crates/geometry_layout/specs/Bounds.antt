-- The bounds of an answer of the geometry step, as one record.
-- Assumes nothing.
use Rattle.std.specs.Prelude.{◌≡◌, true, ℕ, ◌+◌, ◌*◌, ◌-◌, ◌/◌, ◌^◌, ◌≤◌, ◌<◌}
use Rattle.arith.specs.Numbers.{ceil_div}
use Rattle.geometry.specs.declared.Geometry.{Geometry}
use Rattle.geometry.specs.Limits.{min_group_bytes, max_groups, min_groups, min_bytes, realistic_log_bytes, max_log_blocks, log_reserve, max_imaxpct}
use Rattle.geometry.specs.Log.{header_of, prealloc_of}
use Rattle.geometry_layout.specs.Places.{chunk_of, cluster_of, root_chunk_of, freelist_of, group_blocks}

-- sizes in bytes and their logarithms
pub record SizeBounds (g : Geometry) : Type 0 where
  pub block-power : g.blocksize ≡ 2 ^ g.blocklog
  pub block-least : 10 ≤ g.blocklog
  pub block-most : g.blocklog ≤ 14
  pub sector-power : g.sectsize ≡ 2 ^ g.sectlog
  pub sector-least : 9 ≤ g.sectlog
  pub sector-block : g.sectlog ≤ g.blocklog
  pub log-sector : g.lsectsize ≡ g.sectsize
  pub log-sector-log : g.lsectlog ≡ g.sectlog
  pub inode-power : g.inodesize ≡ 2 ^ g.inodelog
  pub inode-least : 9 ≤ g.inodelog
  pub inode-most : g.inodelog ≤ 11
  pub inode-half : g.inodelog + 1 ≤ g.blocklog
  pub inodes-power : g.inopblock ≡ 2 ^ g.inopblog
  pub inodes-log : g.inopblog ≡ g.blocklog - g.inodelog
  pub imaxpct-most : g.imaxpct ≤ max_imaxpct

-- block count and groups
pub record GroupBounds (g : Geometry) : Type 0 where
  pub count-least : min_groups ≤ g.agcount
  pub count_most : g.agcount ≤ max_groups
  pub count : g.agcount ≡ ceil_div g.dblocks g.agsize
  -- every group, the last too, has at least 16 MiB
  pub group-least : min_group_bytes ≤ g.agsize * g.blocksize
  pub last-least : min_group_bytes ≤ (g.dblocks - (g.agcount - 1) * g.agsize) * g.blocksize
  pub group-most : g.agsize < 2 ^ 30
  pub before_last : (g.agcount - 1) * g.agsize < g.dblocks
  pub all-groups : g.dblocks ≤ g.agcount * g.agsize
  pub disk-least : min_bytes ≤ g.dblocks * g.blocksize
  pub disk-most : g.dblocks * g.blocksize < 2 ^ 64
  -- agblklog is the least power of two that is at least agsize
  pub log-enough : g.agsize ≤ 2 ^ g.agblklog
  pub log-least : (j : ℕ) → j < g.agblklog → 2 ^ j < g.agsize
  pub log-most : g.agblklog ≤ 30

-- head, log and root chunk
pub record PlaceBounds (g : Geometry) : Type 0 where
  pub header-most : header_of g.sectsize g.blocksize ≤ 4
  pub head-most : prealloc_of g.features g.sectsize g.blocksize ≤ 10
  pub log-start : g.log_agbno ≡ prealloc_of g.features g.sectsize g.blocksize
  pub log-group : g.logagno ≡ g.agcount / 2
  pub log-not-first : 0 < g.logagno
  pub log-inside : g.logagno < g.agcount
  pub log-bytes : realistic_log_bytes ≤ g.logblocks * g.blocksize
  pub log-blocks : g.logblocks ≤ max_log_blocks
  -- the log fits a whole group, with 5 blocks to spare; in roomy sizing its own, with room for the free list
  pub log-room : g.log_agbno + g.logblocks + log_reserve ≤ g.agsize
  pub log-roomy : g.roomy ≡ true → g.log_agbno + g.logblocks + freelist_of g.features
      ≤ group_blocks g.dblocks g.agsize g.agcount g.logagno
  -- a chunk and a cluster have at most 32 blocks
  pub chunk-most : chunk_of g.inodesize g.blocksize ≤ 32
  pub cluster-most : cluster_of g.inodesize g.blocksize ≤ 32
  -- the root chunk lies in group 0, after head and free list
  pub chunk-after : prealloc_of g.features g.sectsize g.blocksize + freelist_of g.features
      ≤ root_chunk_of g.features g.sectsize g.inodesize g.blocksize
  pub chunk-room : root_chunk_of g.features g.sectsize g.inodesize g.blocksize + chunk_of g.inodesize g.blocksize ≤ 80
  pub chunk_inside : 80 ≤ g.agsize

pub record Bounds (g : Geometry) : Type 0 where
  pub sizes : SizeBounds g
  pub groups : GroupBounds g
  pub places : PlaceBounds g
