-- The structures in the head of group k by the offsets of "XFS Algorithms and Data Structures", a field a number: what stands there is the
-- geometry's, the plan's or the run's. `xs` is the structure's sector or block; all numbers have their highest byte first.
-- Assumes nothing.
use Rattle.std.specs.Prelude.{◌≡◌, true, not, List, ℕ, ◌+◌, ◌*◌, ◌-◌, ◌/◌, ◌%◌, ◌^◌, ◌<◌, eqb, get_or, replicate}
use Rattle.arith.specs.Choice.{when, bit}
use Rattle.endian.specs.Bytes.{be_at, numbers_at}
use Rattle.endian.specs.Fields.{part}
use Rattle.structs.specs.Written.{null32, null64}
use Rattle.geometry.specs.declared.Geometry.{Geometry}
use Rattle.geometry.specs.Log.{header_of}
use Rattle.geometry_layout.specs.Places.{group_blocks, agfl_size, rext_size, align_of, sparse_align, lsunit_bytes, logsunit_of}
use Rattle.geometry_places.specs.Answers.{root_chunk, root_ino}
use Rattle.plan.specs.Plan.{planned}
use Rattle.plan_totals.specs.Totals.{freeblks_of, longest_of}
use Rattle.sb.specs.Superblock.{large_sector, version_of, ro_compat, in_compat}
use Rattle.list_accepted.specs.Superblocks.{root_named, free_named}
use Rattle.reader_decoded.specs.Decoded.{block_at}

-- the blocks of the four header sectors: the root by block is behind them
abbrev pub header_blocks_of : Geometry → ℕ
header_blocks_of g = header_of g.sectsize g.blocksize

-- ---- sector 0: the superblock, `struct xfs_dsb`
pub record SuperblockAt (g : Geometry) (u : List ℕ) (k : ℕ) (xs : List ℕ) : Type 0 where
  pub magic : be_at 4 0 xs ≡ 0x5846_5342  -- sb_magicnum, "XFSB"
  pub blocksize : be_at 4 4 xs ≡ g.blocksize
  pub dblocks : be_at 8 8 xs ≡ g.dblocks
  pub rblocks : be_at 8 16 xs ≡ 0
  pub rextents : be_at 8 24 xs ≡ 0
  pub uuid : part 32 16 xs ≡ u
  pub logstart : be_at 8 48 xs ≡ g.logagno * 2 ^ g.agblklog + g.log_agbno
  pub rootino : be_at 8 56 xs ≡ root_named g k
  pub rbmino : be_at 8 64 xs ≡ when (eqb k 0) (root_ino g + 1) null64
  pub rsumino : be_at 8 72 xs ≡ when (eqb k 0) (root_ino g + 2) null64
  pub rextsize : be_at 4 80 xs ≡ rext_size g.blocksize
  pub agblocks : be_at 4 84 xs ≡ g.agsize
  pub agcount : be_at 4 88 xs ≡ g.agcount
  pub rbmblocks : be_at 4 92 xs ≡ 0
  pub logblocks : be_at 4 96 xs ≡ g.logblocks
  pub versionnum : be_at 2 100 xs ≡ version_of g
  pub sectsize : be_at 2 102 xs ≡ g.sectsize
  pub inodesize : be_at 2 104 xs ≡ g.inodesize
  pub inopblock : be_at 2 106 xs ≡ g.inopblock
  pub fname : part 108 12 xs ≡ g.label
  pub blocklog : be_at 1 120 xs ≡ g.blocklog
  pub sectlog : be_at 1 121 xs ≡ g.sectlog
  pub inodelog : be_at 1 122 xs ≡ g.inodelog
  pub inopblog : be_at 1 123 xs ≡ g.inopblog
  pub agblklog : be_at 1 124 xs ≡ g.agblklog
  pub rextslog : be_at 1 125 xs ≡ 0
  pub inprogress : be_at 1 126 xs ≡ bit (not (eqb k 0))
  pub imaxpct : be_at 1 127 xs ≡ g.imaxpct
  pub icount : be_at 8 128 xs ≡ when (eqb k 0) 64 0
  pub ifree : be_at 8 136 xs ≡ when (eqb k 0) 61 0
  pub fdblocks : be_at 8 144 xs ≡ free_named g k
  pub frextents : be_at 8 152 xs ≡ 0
  pub uquotino : be_at 8 160 xs ≡ 0
  pub gquotino : be_at 8 168 xs ≡ 0
  pub inoalignmt : be_at 4 180 xs ≡ align_of g.features.sparse g.inodesize g.blocksize
  pub unit : be_at 4 184 xs ≡ 0
  pub width : be_at 4 188 xs ≡ 0
  pub dirblklog : be_at 1 192 xs ≡ g.dirblocklog - g.blocklog
  -- named only where a sector is above 512 bytes
  pub logsectlog : be_at 1 193 xs ≡ when (large_sector g) g.lsectlog 0
  pub logsectsize : be_at 2 194 xs ≡ when (large_sector g) g.lsectsize 0
  pub logsunit : be_at 4 196 xs ≡ logsunit_of (lsunit_bytes g.lsectsize g.blocksize)
  pub features2 : be_at 4 200 xs ≡ 0x18a
  pub bad-features2 : be_at 4 204 xs ≡ 0x18a
  pub compat : be_at 4 208 xs ≡ 0
  pub ro-compat : be_at 4 212 xs ≡ ro_compat g.features
  pub incompat : be_at 4 216 xs ≡ in_compat g.features
  pub log-incompat : be_at 4 220 xs ≡ 0
  pub spino-align : be_at 4 228 xs ≡ sparse_align g.features.sparse g.inodesize g.blocksize
  pub pquotino : be_at 8 232 xs ≡ 0
  pub lsn : be_at 8 240 xs ≡ 0

-- ---- sector 1: the free space header, `struct xfs_agf`
pub record AgfAt (g : Geometry) (u : List ℕ) (k : ℕ) (xs : List ℕ) : Type 0 where
  pub magicnum : be_at 4 0 xs ≡ 0x5841_4746  -- "XAGF"
  pub versionnum : be_at 4 4 xs ≡ 1
  pub seqno : be_at 4 8 xs ≡ k
  pub length : be_at 4 12 xs ≡ group_blocks g.dblocks g.agsize g.agcount k
  pub bno-root : be_at 4 16 xs ≡ header_blocks_of g
  pub cnt-root : be_at 4 20 xs ≡ header_blocks_of g + 1
  pub rmap-root : be_at 4 24 xs ≡ when g.features.rmapbt (header_blocks_of g + 3 + bit g.features.finobt) 0
  pub bno-level : be_at 4 28 xs ≡ 1
  pub cnt-level : be_at 4 32 xs ≡ 1
  pub rmap-level : be_at 4 36 xs ≡ bit g.features.rmapbt
  pub flfirst : be_at 4 40 xs ≡ 1
  pub fllast : be_at 4 44 xs ≡ (planned g k).plan.agfl.len % agfl_size g.sectsize
  pub flcount : be_at 4 48 xs ≡ (planned g k).plan.agfl.len
  pub freeblks : be_at 4 52 xs ≡ freeblks_of (planned g k).plan.free
  pub longest : be_at 4 56 xs ≡ longest_of (planned g k).plan.free
  pub btreeblks : be_at 4 60 xs ≡ 0
  pub uuid : part 64 16 xs ≡ u
  pub rmap-blocks : be_at 4 80 xs ≡ bit g.features.rmapbt
  pub refcount-blocks : be_at 4 84 xs ≡ bit g.features.reflink
  pub refcount-root : be_at 4 88 xs ≡ when g.features.reflink
      (header_blocks_of g + 3 + bit g.features.finobt + bit g.features.rmapbt) 0
  pub refcount-level : be_at 4 92 xs ≡ bit g.features.reflink
  pub lsn : be_at 8 208 xs ≡ 0

-- ---- sector 2: the inode header, `struct xfs_agi`; the root chunk is group 0's
pub record AgiAt (g : Geometry) (u : List ℕ) (k : ℕ) (xs : List ℕ) : Type 0 where
  pub magicnum : be_at 4 0 xs ≡ 0x5841_4749  -- "XAGI"
  pub versionnum : be_at 4 4 xs ≡ 1
  pub seqno : be_at 4 8 xs ≡ k
  pub length : be_at 4 12 xs ≡ group_blocks g.dblocks g.agsize g.agcount k
  pub count : be_at 4 16 xs ≡ when (eqb k 0) 64 0
  pub root : be_at 4 20 xs ≡ header_blocks_of g + 2
  pub level : be_at 4 24 xs ≡ 1
  pub freecount : be_at 4 28 xs ≡ when (eqb k 0) 61 0
  pub newino : be_at 4 32 xs ≡ when (eqb k 0) (root_chunk g * 2 ^ g.inopblog) null32
  pub dirino : be_at 4 36 xs ≡ null32
  pub unlinked : numbers_at 4 64 40 xs ≡ replicate 64 null32
  pub uuid : part 296 16 xs ≡ u
  pub lsn : be_at 8 320 xs ≡ 0
  pub free-root : be_at 4 328 xs ≡ when g.features.finobt (header_blocks_of g + 3) 0
  pub free-level : be_at 4 332 xs ≡ bit g.features.finobt
  pub iblocks : be_at 4 336 xs ≡ bit g.features.inobtcount
  pub fblocks : be_at 4 340 xs ≡ when g.features.inobtcount (bit g.features.finobt) 0

-- ---- sector 3: the free list, `struct xfs_agfl`: its blocks stand from slot 1 on
pub record FreeListAt (g : Geometry) (u : List ℕ) (k : ℕ) (xs : List ℕ) : Type 0 where
  pub magicnum : be_at 4 0 xs ≡ 0x5841_464c  -- "XAFL"
  pub seqno : be_at 4 4 xs ≡ k
  pub uuid : part 8 16 xs ≡ u
  pub lsn : be_at 8 24 xs ≡ 0
  pub bno : (i : ℕ) → i < (planned g k).plan.agfl.len → be_at 4 (36 + 4 * (1 + i)) xs ≡ get_or (planned g k).plan.agfl.blocks i 0

-- ---- the blocks behind: a leaf that is the root of its tree, `struct xfs_btree_block`, in block b of the group
pub record LeafAt (g : Geometry) (u : List ℕ) (k b magicnum records : ℕ) (xs : List ℕ) : Type 0 where
  pub magic : be_at 4 0 xs ≡ magicnum
  pub level : be_at 2 4 xs ≡ 0
  pub numrecs : be_at 2 6 xs ≡ records
  pub leftsib : be_at 4 8 xs ≡ null32
  pub rightsib : be_at 4 12 xs ≡ null32
  pub blkno : be_at 8 16 xs ≡ (k * g.agsize + b) * (g.blocksize / 512)  -- its address in units of 512 bytes
  pub lsn : be_at 8 24 xs ≡ 0
  pub uuid : part 32 16 xs ≡ u
  pub owner : be_at 4 48 xs ≡ k

-- the roots of a group: three, and one more for each of finobt, rmapbt and reflink, in this order
pub record RootsAt (g : Geometry) (u : List ℕ) (k : ℕ) (head : List ℕ) : Type 0 where
  -- free extents by block, "AB3B", and by size, "AB3C"
  pub by-block : LeafAt g u k (header_blocks_of g) 0x4142_3342 (planned g k).plan.free.len (block_at g (header_blocks_of g) head)
  pub by-size : LeafAt g u k (header_blocks_of g + 1) 0x4142_3343 (planned g k).plan.free.len (block_at g (header_blocks_of g + 1) head)
  -- inodes, "IAB3", and free inodes, "FIB3": the root chunk's record in group 0
  pub inodes : LeafAt g u k (header_blocks_of g + 2) 0x4941_4233 (bit (eqb k 0)) (block_at g (header_blocks_of g + 2) head)
  pub free-inodes : g.features.finobt ≡ true
      → LeafAt g u k (header_blocks_of g + 3) 0x4649_4233 (bit (eqb k 0)) (block_at g (header_blocks_of g + 3) head)
  -- reverse mappings, "RMB3", and reference counts, "R3FC"
  pub mappings : g.features.rmapbt ≡ true
      → let b = header_blocks_of g + 3 + bit g.features.finobt in LeafAt g u k b 0x524d_4233
      (planned g k).plan.rmap.len (block_at g b head)
  pub counts : g.features.reflink ≡ true
      → let b = header_blocks_of g + 3 + bit g.features.finobt
      + bit g.features.rmapbt in LeafAt g u k b 0x5233_4643 0 (block_at g b head)
