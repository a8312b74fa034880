-- The head of a group: its four header sectors, zeros up to the next block, and the root blocks of its trees, one after the other.
-- Assumes nothing.
use Rattle.std.specs.Prelude.{cond, List, [], ◌++◌, ℕ, ◌+◌, ◌*◌, ◌-◌, ◌%◌, eqb, length, take}
use Rattle.endian.specs.Bytes.{zeros}
use Rattle.refusals.specs.Numbers.{wrong_length, no_answer}
use Rattle.arith.specs.Choice.{when, bit}
use Rattle.structs.specs.Written.{require}
use Rattle.geometry.specs.declared.Geometry.{Geometry}
use Rattle.geometry.specs.Log.{prealloc_of}
use Rattle.geometry_layout.specs.Places.{cnt_block, ibt_block, fibt_block, rmap_block, refc_block, agfl_size, daddr_of}
use Rattle.btree.specs.Records.{records_bytes, alloc_bytes, inobt_bytes, rmap_bytes}
use Rattle.btree.specs.Leaf.{leaf_bytes}
use Rattle.ag.specs.declared.agf.Agf.{Agf}
use Rattle.ag.specs.declared.agi.Agi.{Agi}
use Rattle.ag.specs.Agf.{agf_bytes}
use Rattle.ag.specs.Agi.{agi_bytes}
use Rattle.ag.specs.Agfl.{agfl_bytes}
use Rattle.sb.specs.declared.SbState.{SbState}
use Rattle.sb.specs.Superblock.{sb_bytes}
use Rattle.plan_free.specs.declared.FreeList.{FreeList}
use Rattle.plan_free.specs.Free.{free_of}
use Rattle.plan_rmap.specs.declared.RmapList.{RmapList}
use Rattle.plan_rmap.specs.Rmap.{rmap_of}
use Rattle.plan.specs.declared.AgPlan.{AgPlan}
use Rattle.plan.specs.Plan.{planned}
use Rattle.plan_totals.specs.Totals.{freeblks_of, longest_of}
use Rattle.plan_same.specs.Same.{is_plan}
use Rattle.head_leaves.specs.Leaves.{chunk_rec, few}
use Rattle.head_frame.specs.declared.Frame.{Frame}
use Rattle.head_frame.specs.Frames.{frame_of}
use Rattle.head_bytes.specs.Sorting.{by_size}

-- the blocks of the head: header blocks, three roots, and one more for each of finobt, rmapbt and reflink
unfoldable pub frame_blocks : Frame → ℕ
frame_blocks w = w.header + 3 + bit w.features.finobt + bit w.features.rmapbt + bit w.features.reflink

-- ---- the header sectors

-- the AGF: the group, the roots of its trees, each of one level, the free list from slot 1 on, and the free blocks
abbrev pub agf_with : Frame → ℕ → ℕ → ℕ → Agf
agf_with w list freeblks longest =
    record {
      seqno = w.agno;
      length = w.length;
      bno_root = w.header;
      bno_level = 1;
      cnt_root = cnt_block w.header;
      cnt_level = 1;
      rmap_root = when w.features.rmapbt (rmap_block w.features w.header) 0;
      rmap_level = bit w.features.rmapbt;
      rmap_blocks = bit w.features.rmapbt;
      refcount_root = when w.features.reflink (refc_block w.features w.header) 0;
      refcount_level = bit w.features.reflink;
      refcount_blocks = bit w.features.reflink;
      flfirst = 1;
      fllast = list % agfl_size w.sector;
      flcount = list;
      freeblks = freeblks;
      longest = longest;
      btreeblks = 0;
    }

unfoldable pub agf_for : Frame → FreeList → ℕ → Agf
agf_for w free list = agf_with w list (freeblks_of free) (longest_of free)

-- the AGI: the group, its inodes, where it has the root chunk, and the roots of the inode trees
unfoldable pub agi_for : Frame → Agi
agi_for w =
    record {
      seqno = w.agno;
      length = w.length;
      count = when w.has_chunk 64 0;
      root = ibt_block w.header;
      level = 1;
      freecount = when w.has_chunk 61 0;
      newino = w.newino;
      free_root = when w.features.finobt (fibt_block w.header) 0;
      free_level = bit w.features.finobt;
      iblocks = bit w.features.inobtcount;
      fblocks = when w.features.inobtcount (bit w.features.finobt) 0;
    }

-- ---- the roots, each one leaf block

-- magic numbers: "AB3B", "AB3C", "IAB3", "FIB3", "RMB3", "R3FC"
abbrev pub bno_magic : ℕ
bno_magic = 0x4142_3342

abbrev pub cnt_magic : ℕ
cnt_magic = 0x4142_3343

abbrev pub ino_magic : ℕ
ino_magic = 0x4941_4233

abbrev pub fino_magic : ℕ
fino_magic = 0x4649_4233

abbrev pub rmap_magic : ℕ
rmap_magic = 0x524d_4233

abbrev pub refc_magic : ℕ
refc_magic = 0x5233_4643

-- the root in block b: n records of the bytes `recs`
unfoldable pub root_bytes : Frame → List ℕ → ℕ → ℕ → List ℕ → ℕ → List ℕ
root_bytes w uuid magic b recs n = leaf_bytes magic (daddr_of w.block w.agsize w.agno b) w.agno uuid recs n w.block

-- free extents by block, and by size
unfoldable pub bno_root : Frame → List ℕ → FreeList → List ℕ
bno_root w uuid free = root_bytes w uuid bno_magic w.header (records_bytes alloc_bytes (free_of free)) free.len

unfoldable pub cnt_root : Frame → List ℕ → FreeList → List ℕ
cnt_root w uuid free = root_bytes w uuid cnt_magic (cnt_block w.header) (records_bytes alloc_bytes (by_size (free_of free))) free.len

-- inodes, and free inodes: the root chunk, where the group has it
unfoldable pub inode_root : Frame → List ℕ → ℕ → ℕ → List ℕ
inode_root w uuid magic b =
    root_bytes w uuid magic b (records_bytes (inobt_bytes w.features.sparse) (few (bit w.has_chunk) (chunk_rec w.newino)))
    (bit w.has_chunk)

unfoldable pub rmap_root : Frame → List ℕ → RmapList → List ℕ
rmap_root w uuid maps = root_bytes w uuid rmap_magic (rmap_block w.features w.header) (records_bytes rmap_bytes (rmap_of maps)) maps.len

-- reference counts: none
unfoldable pub refc_root : Frame → List ℕ → List ℕ
refc_root w uuid = root_bytes w uuid refc_magic (refc_block w.features w.header) [] 0

-- ---- the head

-- AGF, AGI and free list, each in a sector of zeros
unfoldable pub sectors_bytes : Frame → AgPlan → List ℕ → List ℕ
sectors_bytes w p uuid =
    agf_bytes (agf_for w p.free p.agfl.len) uuid (zeros w.sector)
    ++ (agi_bytes (agi_for w) uuid (zeros w.sector)
    ++ agfl_bytes w.agno uuid 1 (take p.agfl.len p.agfl.blocks) (zeros w.sector))

-- three roots, and one more for each of finobt, rmapbt and reflink
unfoldable pub roots_bytes : Frame → AgPlan → List ℕ → List ℕ
roots_bytes w p uuid =
    bno_root w uuid p.free
    ++ (cnt_root w uuid p.free
    ++ (inode_root w uuid ino_magic (ibt_block w.header)
    ++ (cond w.features.finobt (inode_root w uuid fino_magic (fibt_block w.header)) []
    ++ (cond w.features.rmapbt (rmap_root w uuid p.rmap) []
    ++ cond w.features.reflink (refc_root w uuid) []))))

-- what lies behind the superblock's sector; it depends on frame, plan and UUID alone
unfoldable pub behind_bytes : Frame → AgPlan → List ℕ → List ℕ
behind_bytes w p uuid = sectors_bytes w p uuid ++ (zeros (w.header * w.block - 4 * w.sector) ++ roots_bytes w p uuid)

-- the head of the plan's group: the superblock in its state, in a sector of zeros, and what lies behind it
unfoldable pub head_bytes : Geometry → AgPlan → List ℕ → SbState → List ℕ
head_bytes g p uuid s = sb_bytes g s (zeros g.sectsize) ++ behind_bytes (frame_of g p) p uuid

-- its length: the preallocated blocks
unfoldable pub head_length : Geometry → ℕ
head_length g = prealloc_of g.features g.sectsize g.blocksize * g.blocksize

-- 31, then 27 unless the lent bytes are the head's
unfoldable pub head_number : Geometry → AgPlan → ℕ → ℕ
head_number g p len = require no_answer (is_plan g p) (require wrong_length (eqb len (head_length g)) 0)

-- of a group by its number: 31, 29 or 25 where the planner refuses it, then 27 unless the lent bytes are the head's
unfoldable pub group_head_number : Geometry → ℕ → ℕ → ℕ
group_head_number g k len = cond (eqb (planned g k).number 0) (require wrong_length (eqb len (head_length g)) 0) (planned g k).number
