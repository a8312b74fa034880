-- The superblock of each group: what its state is while the run writes, and of group 0 at the end.
-- Assumes nothing.
use Rattle.std.specs.Prelude.{Bool, true, false, ◌&&◌, ◌||◌, cond, List, ℕ, ◌+◌, ◌-◌, ◌/◌, leb, ltb, eqb, replicate}
use Rattle.arith.specs.Choice.{when}
use Rattle.refusals.specs.Numbers.{no_place}
use Rattle.structs.specs.Written.{null64}
use Rattle.geometry.specs.declared.Geometry.{Geometry}
use Rattle.geometry_layout.specs.Limits.{chunk_inodes}
use Rattle.geometry_places.specs.Answers.{root_ino, initial_fdblocks}
use Rattle.plan_totals.specs.Totals.{plans_number, free_count}
use Rattle.sb.specs.declared.SbState.{SbState}
use Rattle.sb_states.specs.declared.Stated.{Stated}

-- ---- states over plain numbers

-- before the root chunk is there: no inode counted, and only the root inode may be named
abbrev pub secondary_with : List ℕ → ℕ → ℕ → SbState
secondary_with uuid rootino fdblocks =
    record {
      uuid = uuid;
      rootino = rootino;
      rbmino = null64;
      rsumino = null64;
      icount = 0;
      ifree = 0;
      fdblocks = fdblocks;
      inprogress = true;
    }

-- the inodes of the root chunk that are in use: root directory, realtime bitmap, realtime summary
abbrev pub in_use : ℕ
in_use = 3

-- with the root chunk: the three are its first
abbrev pub primary_with : List ℕ → ℕ → ℕ → Bool → SbState
primary_with uuid rootino fdblocks inprogress =
    record {
      uuid = uuid;
      rootino = rootino;
      rbmino = rootino + 1;
      rsumino = rootino + 2;
      icount = chunk_inodes;
      ifree = chunk_inodes - in_use;
      fdblocks = fdblocks;
      inprogress = inprogress;
    }

-- ---- the states of a geometry and a UUID

-- the last group's superblock names the root inode, and above 2 groups that of group (agcount − 1) / 2
unfoldable pub names_root : ℕ → ℕ → Bool
names_root agcount agno = eqb agno (agcount - 1) || (ltb 2 agcount && eqb agno ((agcount - 1) / 2))

-- secondaries: the free count still includes the root chunk
unfoldable pub secondary_state : Geometry → List ℕ → ℕ → SbState
secondary_state g uuid agno = secondary_with uuid (when (names_root g.agcount agno) (root_ino g) null64) (initial_fdblocks g)

-- group 0's until all is written, and at the end
unfoldable pub unfinished_state : Geometry → List ℕ → SbState
unfinished_state g uuid = primary_with uuid (root_ino g) (free_count g) true

unfoldable pub finished_state : Geometry → List ℕ → SbState
finished_state g uuid = primary_with uuid (root_ino g) (free_count g) false

-- the state that group agno's head is written with
unfoldable pub state_of : Geometry → List ℕ → ℕ → SbState
state_of g uuid agno = cond (eqb agno 0) (unfinished_state g uuid) (secondary_state g uuid agno)

-- ---- what the functions answer

abbrev pub state_refused : ℕ → Stated
state_refused n = record {
  number = n;
  state = record
      { uuid = replicate 16 0; rootino = 0; rbmino = 0; rsumino = 0; icount = 0; ifree = 0; fdblocks = 0; inprogress = false };
}

-- the state, where the number is 0
abbrev pub stated_as : ℕ → SbState → Stated
stated_as n s = cond (eqb n 0) (record { number = 0; state = s }) (state_refused n)

-- 31, 25, then 29 for a group that is not there
unfoldable pub state_number : Geometry → ℕ → ℕ
state_number g agno = cond (eqb (plans_number g) 0) (when (leb g.agcount agno) no_place 0) (plans_number g)

-- `state_of`: 31, 25, 29, or the state of a group's superblock
unfoldable pub stated : Geometry → List ℕ → ℕ → Stated
stated g uuid agno = stated_as (state_number g agno) (state_of g uuid agno)

-- `finished_state`: 31, 25, or the state of group 0's superblock at the end
unfoldable pub finished_answer : Geometry → List ℕ → Stated
finished_answer g uuid = stated_as (plans_number g) (finished_state g uuid)
