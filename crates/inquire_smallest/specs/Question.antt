-- A disk for so many pictures: the smallest device size, among some in steps of 1 MiB, that leaves so many free blocks.
-- Assumes nothing.
use Rattle.std.specs.Prelude.{◌≡◌, Bool, ◌&&◌, ◌||◌, cond, List, ℕ, ◌+◌, ◌*◌, ◌-◌, ◌^◌, ◌≤◌, ◌<◌, leb, ltb, eqb, None}
use Rattle.arith.specs.Choice.{when}
use Rattle.refusals.specs.Numbers.{none_reaches, bad_sizes}
use Rattle.params.specs.declared.Params.{Params}
use Rattle.params.specs.Params.{options}
use Rattle.geometry.specs.Limits.{mib}
use Rattle.geometry.specs.Compute.{compute_def}
use Rattle.sb_states.specs.States.{finished_state}
use Rattle.request.specs.Parse.{parse_def}
use Rattle.request.specs.Defaults.{uuid_of}
use Rattle.run.specs.Runs.{or_next}
use Rattle.inquire_sizes.specs.First.{first_from}
use Rattle.inquire_sizes.specs.Ranges.{size_number, options_number, FormattedSize}
use Rattle.inquire_smallest.specs.declared.Found.{Found}

-- agsize and agcount are left to default: given ones are as if absent
abbrev pub default_groups : Params → Params
default_groups p =
    options p.size p.block_size p.sector_size p.inode_size None None p.imaxpct p.label p.uuid p.time
    p.gen_seed p.features p.roomy

-- ---- one size

-- the free count of the finished superblock, on a device of so many bytes
unfoldable pub free_on_device : Params → ℕ → ℕ → ℕ → ℕ
free_on_device p logical physical device = (finished_state (compute_def p device logical physical).geometry (uuid_of p)).fdblocks

-- the size is a candidate, one that geometry and planning accept, and it has at least so many free blocks
unfoldable pub reaches : Params → ℕ → ℕ → ℕ → ℕ → Bool
reaches p logical physical wanted device = eqb (size_number p logical physical device) 0
    && leb wanted (free_on_device p logical physical device)

-- ---- the sizes

-- size i of those that begin with `start`, in steps of 1 MiB
abbrev pub size_tried : ℕ → ℕ → ℕ
size_tried start i = start + i * mib

-- which of the sizes is the first that reaches the count; their number where none does
unfoldable pub first_reaching : Params → ℕ → ℕ → ℕ → ℕ → ℕ → ℕ
first_reaching p logical physical start count wanted = first_from (λ i. reaches p logical physical wanted (size_tried start i)) 0 count

abbrev pub smallest_call_refused : ℕ → Found
smallest_call_refused n = record { number = n; size = 0 }

-- its size, or 38
unfoldable pub found_in : Params → ℕ → ℕ → ℕ → ℕ → ℕ → Found
found_in p logical physical start count wanted =
    cond (ltb (first_reaching p logical physical start count wanted) count)
    (record { number = 0; size = size_tried start (first_reaching p logical physical start count wanted) })
    (smallest_call_refused none_reaches)

-- ---- the question

-- the most sizes
abbrev pub most_sizes : ℕ
most_sizes = 65536

-- 39: there is no size, there are too many, or the last doesn't fit 64 bits
unfoldable pub no_sizes : ℕ → ℕ → Bool
no_sizes start count = eqb count 0 || (ltb most_sizes count || leb (2 ^ 64) (size_tried start (count - 1)))

-- the number of the question itself: 1 to 8, then 39
unfoldable pub smallest_question : Params → ℕ → ℕ → ℕ → ℕ → ℕ
smallest_question p logical physical start count = or_next (options_number p logical physical) (when (no_sizes start count) bad_sizes 0)

-- `smallest`, with the groups left to default
unfoldable pub smallest_answer : Params → ℕ → ℕ → ℕ → ℕ → ℕ → Found
smallest_answer p logical physical start count wanted =
    let q = default_groups p in
    cond (eqb (smallest_question q logical physical start count) 0)
    (found_in q logical physical start count wanted)
    (smallest_call_refused (smallest_question q logical physical start count))

-- `smallest_of`: the same of input records, 28 before all; the device's size in them isn't read
unfoldable pub smallest_asked : List ℕ → ℕ → ℕ → ℕ → Found
smallest_asked input start count wanted =
    let q = parse_def input in
    cond (eqb q.number 0) (smallest_answer q.params q.logical q.physical start count wanted) (smallest_call_refused q.number)

-- ---- what the answers mean, with the groups left to default

-- no candidate among the first n sizes reaches the count
abbrev pub NoneBelow : Params → ℕ → ℕ → ℕ → ℕ → ℕ → Type 0
NoneBelow p logical physical start wanted n =
    (i : ℕ) → i < n → FormattedSize (default_groups p) logical physical (size_tried start i)
    → free_on_device (default_groups p) logical physical (size_tried start i) < wanted

-- a size is the smallest candidate that reaches the count
pub record SmallestSize (p : Params) (logical physical start count wanted size : ℕ) : Type 0 where
  pub index : ℕ
  pub among : index < count
  pub its-size : size ≡ size_tried start index
  pub candidate : FormattedSize (default_groups p) logical physical size
  pub enough : wanted ≤ free_on_device (default_groups p) logical physical size
  pub none-smaller : NoneBelow p logical physical start wanted index
