-- What the superblocks that a run leaves say, and what finishing it changes.
-- Assumes nothing.
use Rattle.std.specs.Prelude.{◌≡◌, Bool, not, ◌&&◌, ◌||◌, List, ℕ, ◌+◌, leb, ltb, eqb, get_or}
use Rattle.arith.specs.Choice.{when, bit}
use Rattle.endian.specs.Bytes.{be_at}
use Rattle.endian.specs.Fields.{part}
use Rattle.structs.specs.Written.{null64}
use Rattle.geometry.specs.declared.Geometry.{Geometry}
use Rattle.geometry_layout.specs.Places.{chunk_of}
use Rattle.geometry_places.specs.Answers.{root_ino}
use Rattle.plan_totals.specs.Totals.{free_count}
use Rattle.sb.specs.declared.SbState.{SbState}
use Rattle.sb.specs.Superblock.{crc_at}
use Rattle.sb_states.specs.States.{names_root}
use Rattle.run.specs.declared.Run.{Run}
use Rattle.list_spec.specs.Listing.{head_left}

-- ---- the finished superblock

-- a state that is in progress, or not; all else is kept
abbrev pub marked : Bool → SbState → SbState
marked inprogress s =
    record {
      uuid = s.uuid;
      rootino = s.rootino;
      rbmino = s.rbmino;
      rsumino = s.rsumino;
      icount = s.icount;
      ifree = s.ifree;
      fdblocks = s.fdblocks;
      inprogress = inprogress;
    }

-- the byte of sb_inprogress
abbrev pub mark_at : ℕ
mark_at = 126

-- where sb_crc ends
abbrev pub crc_end : ℕ
crc_end = crc_at + 4

-- the bytes that finishing a run changes: sb_inprogress, and the four of sb_crc
unfoldable pub changed_byte : ℕ → Bool
changed_byte i = eqb i mark_at || (leb crc_at i && ltb i crc_end)

-- ---- what a run leaves

-- in the head of group k
unfoldable pub left_in : Run → ℕ → List ℕ
left_in run k = head_left run.geometry run.uuid k

-- the root inode is named by the superblocks of group 0, of the last group and, above 2 groups, of group (agcount − 1) / 2; the others name
-- none
unfoldable pub root_named : Geometry → ℕ → ℕ
root_named g k = when (eqb k 0 || names_root g.agcount k) (root_ino g) null64

-- group 0's superblock has the final free count; the others' still includes the root chunk
unfoldable pub free_named : Geometry → ℕ → ℕ
free_named g k = when (eqb k 0) (free_count g) (free_count g + chunk_of g.inodesize g.blocksize)

-- the secondaries stay marked as unfinished
unfoldable pub mark_named : ℕ → ℕ
mark_named k = bit (not (eqb k 0))

-- sb_rootino and sb_fdblocks of a head
abbrev pub root_field : List ℕ → ℕ
root_field xs = be_at 8 56 xs

abbrev pub free_field : List ℕ → ℕ
free_field xs = be_at 8 144 xs

-- what the head of group k says of the disk
pub record Says (g : Geometry) (uuid : List ℕ) (k : ℕ) (xs : List ℕ) : Type 0 where
  pub blocks : be_at 8 8 xs ≡ g.dblocks  -- sb_dblocks
  pub id : part 32 16 xs ≡ uuid  -- sb_uuid
  pub root : root_field xs ≡ root_named g k
  pub groups : be_at 4 88 xs ≡ g.agcount  -- sb_agcount
  pub mark : get_or xs mark_at 0 ≡ mark_named k
  pub free : free_field xs ≡ free_named g k
  pub group : be_at 4 (g.sectsize + 8) xs ≡ k  -- agf_seqno
