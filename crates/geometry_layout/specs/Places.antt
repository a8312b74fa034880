-- Where things lie in a geometry: heads, free lists, root chunk, groups, and the four units of a block's place.
-- Assumes nothing.
use Rattle.std.specs.Prelude.{Bool, ◌&&◌, ℕ, ◌+◌, ◌*◌, ◌-◌, ◌/◌, ◌^◌, ltb, eqb}
use Rattle.arith.specs.Choice.{when, bit}
use Rattle.arith.specs.Numbers.{ceil_div}
use Rattle.params.specs.declared.Features.{Features}
use Rattle.geometry_layout.specs.Limits.{agfl_header_size, agfl_slot, agfl_reserve, chunk_inodes, big_cluster, least_inode, realtime_extent, log_header, address_unit}
use Rattle.geometry.specs.Log.{prealloc_of}
unfoldable pub use Rattle.geometry.specs.Groups.{group_blocks}
unfoldable pub use Rattle.geometry.specs.Log.{freelist_of}

-- ---- the head of a group, in blocks from its start: header blocks, roots by block and by count, inode root,
-- then free inode root, rmap root and reference count root where their features are on

unfoldable pub cnt_block : ℕ → ℕ
cnt_block header = header + 1

unfoldable pub ibt_block : ℕ → ℕ
ibt_block header = header + 2

unfoldable pub fibt_block : ℕ → ℕ
fibt_block header = header + 3

unfoldable pub rmap_block : Features → ℕ → ℕ
rmap_block f header = header + 3 + bit f.finobt

unfoldable pub refc_block : Features → ℕ → ℕ
refc_block f header = header + 3 + bit f.finobt + bit f.rmapbt

-- blocks of a group that can be handed out: all but the head and the reserve of 4
unfoldable pub usable_of : ℕ → ℕ → ℕ
usable_of agsize prealloc = agsize - (prealloc + agfl_reserve)

-- ---- the free list

-- its slots: what its sector holds after the header
unfoldable pub agfl_size : ℕ → ℕ
agfl_size sector = (sector - agfl_header_size) / agfl_slot

-- ---- inodes

-- blocks of a chunk of 64 inodes
unfoldable pub chunk_of : ℕ → ℕ → ℕ
chunk_of inode bs = chunk_inodes * inode / bs

-- blocks of an inode cluster: 8192 bytes where inodes have 256, in proportion where they are larger
unfoldable pub cluster_of : ℕ → ℕ → ℕ
cluster_of inode bs = big_cluster * (inode / least_inode) / bs

-- the alignment of chunks, in blocks
unfoldable pub align_of : Bool → ℕ → ℕ → ℕ
align_of sparse inode bs = when sparse (chunk_of inode bs) (cluster_of inode bs)

-- the alignment of sparse chunks, in blocks
unfoldable pub sparse_align : Bool → ℕ → ℕ → ℕ
sparse_align sparse inode bs = when sparse (cluster_of inode bs) 0

-- n rounded up to a multiple of m
unfoldable pub round_up : ℕ → ℕ → ℕ
round_up n m = ceil_div n m * m

-- n aligned; every block is aligned to 0 and 1
unfoldable pub aligned : ℕ → ℕ → ℕ
aligned n m = when (ltb 1 m) (round_up n m) n

-- the root chunk's first block in group 0: after head and free list, aligned; the log is never in group 0
unfoldable pub root_chunk_of : Features → ℕ → ℕ → ℕ → ℕ
root_chunk_of f sector inode bs = aligned (prealloc_of f sector bs + freelist_of f) (align_of f.sparse inode bs)

-- ---- realtime extent and log

-- blocks of a realtime extent: 4096 bytes, or one block
unfoldable pub rext_size : ℕ → ℕ
rext_size block = when (ltb block realtime_extent) (realtime_extent / block) 1

-- bytes of the log stripe unit: one block where the log's sector is above 512 bytes, else none
unfoldable pub lsunit_bytes : ℕ → ℕ → ℕ
lsunit_bytes lsector block = when (ltb log_header lsector) block 0

-- as the superblock has it: 1 for none
unfoldable pub logsunit_of : ℕ → ℕ
logsunit_of unit = when (eqb unit 0) 1 unit

-- ---- blocks

-- block b of group k is on the disk
unfoldable pub is_place : ℕ → ℕ → ℕ → ℕ → ℕ → Bool
is_place d s n k b = ltb k n && ltb b (group_blocks d s n k)

-- the file system block: the group shifted by agblklog, plus the block
unfoldable pub fsb_of : ℕ → ℕ → ℕ → ℕ
fsb_of log k b = k * 2 ^ log + b

-- the inode number: the file system block shifted by the logarithm of inodes per block, plus the slot
unfoldable pub ino_of : ℕ → ℕ → ℕ → ℕ → ℕ → ℕ
ino_of log inolog k b slot = fsb_of log k b * 2 ^ inolog + slot

-- blocks before block b of group k, for groups of s blocks
unfoldable pub disk_blocks_before : ℕ → ℕ → ℕ → ℕ
disk_blocks_before s k b = k * s + b

-- its address in units of 512 bytes
unfoldable pub daddr_of : ℕ → ℕ → ℕ → ℕ → ℕ
daddr_of bs s k b = disk_blocks_before s k b * (bs / address_unit)

-- its offset in bytes
unfoldable pub byte_of : ℕ → ℕ → ℕ → ℕ → ℕ
byte_of bs s k b = disk_blocks_before s k b * bs

-- free blocks before the root chunk is taken: all but the heads and the log
unfoldable pub initial_free : ℕ → ℕ → ℕ → ℕ → ℕ
initial_free d n prealloc log = d - n * prealloc - log
