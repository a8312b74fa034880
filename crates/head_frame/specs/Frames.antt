-- What the parts of a group's head have in common.
-- Assumes nothing.
use Rattle.std.specs.Prelude.{◌≡◌, Bool, true, false, cond, ℕ, ◌+◌, ◌*◌, ◌/◌, ◌^◌, ◌≤◌, ◌<◌, eqb, Option, Some, None}
use Rattle.refusals.specs.Numbers.{no_answer}
use Rattle.params.specs.declared.Features.{Features}
use Rattle.geometry.specs.declared.Geometry.{Geometry}
use Rattle.geometry.specs.Log.{header_of}
use Rattle.structs.specs.Sizes.{is_sector, is_block}
use Rattle.structs.specs.Written.{null32}
use Rattle.plan.specs.declared.AgPlan.{AgPlan}
use Rattle.plan.specs.Plan.{planned}
use Rattle.plan_same.specs.Same.{is_plan}
use Rattle.plan_totals.specs.Totals.{freeblks_of, longest_of}
use Rattle.head_frame.specs.declared.Frame.{Frame}
use Rattle.head_frame.specs.declared.Framed.{Framed}
use Rattle.head_frame.specs.declared.FramedPlan.{FramedPlan}

-- the root chunk lies in this group
unfoldable pub has_chunk : Option ℕ → Bool
has_chunk None = false
has_chunk (Some c) = true

-- its first inode within the group: the block shifted by the logarithm of inodes per block; null where there is none
unfoldable pub chunk_ino : ℕ → Option ℕ → ℕ
chunk_ino log None = null32
chunk_ino log (Some c) = c * 2 ^ log

unfoldable pub frame_of : Geometry → AgPlan → Frame
frame_of g p =
    record {
      agno = p.agno;
      length = p.length;
      header = header_of g.sectsize g.blocksize;
      sector = g.sectsize;
      block = g.blocksize;
      agsize = g.agsize;
      has_chunk = has_chunk p.chunk;
      newino = chunk_ino g.inopblog p.chunk;
      freeblks = freeblks_of p.free;
      longest = longest_of p.free;
      list = p.agfl.len;
      features = g.features;
    }

abbrev pub no_features : Features
no_features = record {
  finobt = false;
  rmapbt = false;
  reflink = false;
  inobtcount = false;
  bigtime = false;
  nrext64 = false;
  sparse = false;
}

abbrev pub no_frame : Frame
no_frame = record {
  agno = 0;
  length = 0;
  header = 0;
  sector = 0;
  block = 0;
  agsize = 0;
  has_chunk = false;
  newino = 0;
  freeblks = 0;
  longest = 0;
  list = 0;
  features = no_features;
}

-- `frame_of`: 31, or the frame
unfoldable pub framed : Geometry → AgPlan → Framed
framed g p = cond (is_plan g p) (record { number = 0; frame = frame_of g p }) (record { number = no_answer; frame = no_frame })

-- `frame_at`: what the planner answers for group k, with the frame of an accepted plan
unfoldable pub framed_at : Geometry → ℕ → FramedPlan
framed_at g k =
    record {
      number = (planned g k).number;
      plan = (planned g k).plan;
      frame = cond (eqb (planned g k).number 0) (frame_of g (planned g k).plan) no_frame;
    }

-- what holds of the frame of every plan of the planner
pub record FrameBounds (w : Frame) : Type 0 where
  pub header-least : 0 < w.header
  pub header-most : w.header ≤ 4
  pub sector-is : is_sector w.sector ≡ true
  pub sector-most : w.sector ≤ w.block
  pub block-is : is_block w.block ≡ true
  pub block-most : w.block ≤ 16384
  -- the four sectors lie in the header blocks
  pub sectors-fit : 4 * w.sector ≤ w.header * w.block
  -- the head's blocks have addresses
  pub addresses : (b : ℕ) → b ≤ 10 → (w.agno * w.agsize + b < 2 ^ 64) × ((w.agno * w.agsize + b) * (w.block / 512) < 2 ^ 64)

-- and of the plan's lists: few records, and few blocks
pub record FewRecords (p : AgPlan) : Type 0 where
  pub free-most : p.free.len ≤ 2
  pub list-most : p.agfl.len ≤ 6
  pub rmap-most : p.rmap.len ≤ 8
  pub blocks-most : freeblks_of p.free < 2 ^ 32
  pub longest-most : longest_of p.free < 2 ^ 32

-- the frame's totals are those of the plan's free records, and of its free list
pub record Counted (w : Frame) (p : AgPlan) : Type 0 where
  pub blocks : w.freeblks ≡ freeblks_of p.free
  pub longest : w.longest ≡ longest_of p.free
  pub list : w.list ≡ p.agfl.len
