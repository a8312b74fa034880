-- Disks known only by their label: whether every device size of a range is formatted.
-- Assumes nothing.
use Rattle.std.specs.Prelude.{◌≡◌, Bool, not, ◌&&◌, ◌||◌, cond, List, ◌∷◌, ℕ, ◌+◌, ◌*◌, ◌-◌, ◌/◌, ◌≤◌, ◌<◌, ltb, eqb}
use Rattle.arith.specs.Choice.{when}
use Rattle.refusals.specs.Numbers.{inobtcount_alone, bad_range}
use Rattle.refusals.specs.Table.{◌if◌, first}
use Rattle.params.specs.declared.Params.{Params}
use Rattle.geometry.specs.Sizes.{block_of, sizes_of, sizes_refusals}
use Rattle.geometry.specs.Compute.{compute_def}
use Rattle.plan_totals.specs.Totals.{plans_number}
use Rattle.request.specs.Parse.{parse_def}
use Rattle.run.specs.Runs.{or_next}
use Rattle.inquire_sizes.specs.declared.Range.{Range}
use Rattle.inquire_sizes.specs.First.{first_from}

-- ---- one size

-- the number of a device of so many bytes: the geometry step's, then that of all plans. The size is formatted where it is 0
unfoldable pub size_number : Params → ℕ → ℕ → ℕ → ℕ
size_number p logical physical device =
    or_next (compute_def p device logical physical).number (plans_number (compute_def p device logical physical).geometry)

-- bytes of a block of the chosen size
abbrev pub block_bytes : Params → ℕ
block_bytes p = block_of p.block_size

-- the number of a device of n whole blocks
unfoldable pub blocks_number : Params → ℕ → ℕ → ℕ → ℕ
blocks_number p logical physical n = size_number p logical physical (n * block_bytes p)

-- ---- a range of sizes, in blocks

-- the smallest refused size from `from` to `to`, both included; to + 1 where every size is formatted
unfoldable pub smallest_refused : (ℕ → ℕ) → ℕ → ℕ → ℕ
smallest_refused number from to = first_from (λ n. not (eqb (number n) 0)) from (to + 1 - from)

-- every size is formatted
abbrev pub all_formatted : Range
all_formatted = record { number = 0; blocks = 0; refusal = 0 }

-- the smallest refused size, with its number
abbrev pub refused_size : ℕ → ℕ → Range
refused_size n number = record { number = 0; blocks = n; refusal = number }

unfoldable pub range_of : (ℕ → ℕ) → ℕ → ℕ → Range
range_of number from to =
    cond (ltb to (smallest_refused number from to)) all_formatted
    (refused_size (smallest_refused number from to) (number (smallest_refused number from to)))

-- ---- the question

-- 1 to 8, which the device's size has no part in: the tests of the geometry step that come before the size's
unfoldable pub options_number : Params → ℕ → ℕ → ℕ
options_number p logical physical =
    let s = sizes_of p logical physical in
    first (inobtcount_alone if (p.features.inobtcount && not p.features.finobt)
    ∷ sizes_refusals s.block s.sector s.inode s.logical) 0

-- the most blocks between the ends
abbrev pub most_apart : ℕ
most_apart = 65536

-- 36: the smallest is above the largest, or they lie too far apart
unfoldable pub no_range : ℕ → ℕ → Bool
no_range from to = ltb to from || ltb most_apart (to - from)

-- the number of the question itself: 1 to 8, then 36
unfoldable pub sizes_question : Params → ℕ → ℕ → ℕ → ℕ → ℕ
sizes_question p logical physical from to = or_next (options_number p logical physical) (when (no_range from to) bad_range 0)

abbrev pub sizes_call_refused : ℕ → Range
sizes_call_refused n = record { number = n; blocks = 0; refusal = 0 }

-- `sizes`: both ends are first cut down to whole blocks
unfoldable pub sizes_answer : Params → ℕ → ℕ → ℕ → ℕ → Range
sizes_answer p logical physical smallest largest =
    let from = smallest / block_bytes p in
    let to = largest / block_bytes p in
    cond (eqb (sizes_question p logical physical from to) 0)
    (range_of (blocks_number p logical physical) from to)
    (sizes_call_refused (sizes_question p logical physical from to))

-- `sizes_of`: the same of input records, 28 before all; the device's size in them isn't read
unfoldable pub sizes_asked : List ℕ → ℕ → ℕ → Range
sizes_asked input smallest largest =
    let q = parse_def input in
    cond (eqb q.number 0) (sizes_answer q.params q.logical q.physical smallest largest) (sizes_call_refused q.number)

-- ---- what the answers mean

-- geometry and all plans are accepted
pub record FormattedSize (p : Params) (logical physical device : ℕ) : Type 0 where
  pub geometry : (compute_def p device logical physical).number ≡ 0
  pub plans : plans_number (compute_def p device logical physical).geometry ≡ 0

-- the smallest refused size n of the sizes between two ends, with its number m
pub record Smallest (p : Params) (logical physical smallest largest n m : ℕ) : Type 0 where
  pub from : smallest / block_bytes p ≤ n
  pub to : n ≤ largest / block_bytes p
  -- its number, which isn't 0
  pub number : blocks_number p logical physical n ≡ m
  pub refused : m ≡ 0 → ⊥
  -- all smaller sizes of the range are formatted, whole blocks or not
  pub before : (device : ℕ) → smallest / block_bytes p ≤ device / block_bytes p → device / block_bytes p < n
      → FormattedSize p logical physical device
