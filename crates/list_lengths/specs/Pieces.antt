-- What is answered about the pieces of a run's list: how many there are, how many bytes each has and the part that it is split from, and
-- the numbers of a refusal.
-- Assumes nothing.
use Rattle.std.specs.Prelude.{cond, ℕ, leb, eqb}
use Rattle.refusals.specs.Numbers.{wrong_length, no_place}
use Rattle.arith.specs.Choice.{when}
use Rattle.structs.specs.Written.{require}
use Rattle.geometry.specs.declared.Geometry.{Geometry}
use Rattle.plan_totals.specs.Totals.{plans_number}
use Rattle.run.specs.declared.Run.{Run}
use Rattle.run.specs.Runs.{or_next, time_refusal}
use Rattle.list_spec.specs.Listing.{piece_count}
use Rattle.list_lengths.specs.declared.parts.Sizes.{Sizes}
use Rattle.list_lengths.specs.Lengths.{list_sizes, piece_list_length, split_part}
use Rattle.list_lengths.specs.declared.Counted.{Counted}

-- ---- lengths

-- the sizes of a geometry
abbrev pub sizes_in : Geometry → Sizes
sizes_in g = list_sizes g.features g.sectsize g.inodesize g.blocksize

-- bytes of piece k
abbrev pub listed_length : Geometry → ℕ → ℕ
listed_length g k = piece_list_length (sizes_in g) g.agcount k

-- bytes of the part that it is split from
abbrev pub part_length : Geometry → ℕ → ℕ
part_length g k = split_part (sizes_in g) g.agcount k

-- ---- numbers

-- 31 for a geometry that is no answer, 25 for a plan that is refused, 26 for a time that can't be stored
unfoldable pub format_number : Run → ℕ
format_number run = or_next (plans_number run.geometry) (time_refusal run.geometry run.time)

-- the same, then 29 where there is no piece k
unfoldable pub piece_number : Run → ℕ → ℕ
piece_number run k = or_next (format_number run) (when (leb (piece_count run) k) no_place 0)

-- the number of a piece, then 27 for a buffer of another length than the piece's or a work buffer shorter than its part; a piece that
-- isn't there has none
unfoldable pub write_number : Run → ℕ → ℕ → ℕ → ℕ
write_number run k len work =
    or_next (piece_number run k) (require wrong_length (eqb len (listed_length run.geometry k))
    (require wrong_length (leb (part_length run.geometry k) work) 0))

-- the count where the number is 0, else the refusal
abbrev pub counted_as : ℕ → ℕ → Counted
counted_as n v = cond (eqb n 0) (record { number = 0; value = v }) (record { number = n; value = 0 })

-- `piece_count`, `piece_length` and `part_length`
unfoldable pub count_answer : Run → Counted
count_answer run = counted_as (format_number run) (piece_count run)

unfoldable pub length_answer : Run → ℕ → Counted
length_answer run k = counted_as (piece_number run k) (listed_length run.geometry k)

unfoldable pub part_answer : Run → ℕ → Counted
part_answer run k = counted_as (piece_number run k) (part_length run.geometry k)
