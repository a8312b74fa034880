-- One pass over a disk: the bytes that it wants next, the state after they were fed, and what is said at the end.
-- Assumes nothing.
use Rattle.std.specs.Prelude.{Bool, true, false, cond, List, ℕ, ◌+◌, ◌-◌, ◌^◌, ltb, eqb, length, replicate, Result, Ok, Err}
use Rattle.refusals.specs.Numbers.{wrong_length, not_left}
use Rattle.arith.specs.Choice.{when}
use Rattle.geometry.specs.declared.Geometry.{Geometry}
use Rattle.geometry.specs.declared.Computed.{Computed}
use Rattle.geometry.specs.Compute.{zero_geometry}
use Rattle.geometry_places.specs.declared.ByteOffset.{ByteOffset}
use Rattle.geometry_places.specs.Answers.{to_byte_offset}
use Rattle.head_bytes.specs.Head.{head_length}
use Rattle.reader_names.specs.Read.{named_read}
use Rattle.reader_compare.specs.Places.{made_in}
use Rattle.reader_exact.specs.Read.{least_sector, read_group0, group_number, read_log}
use Rattle.reader_pass.specs.declared.Stage.{Stage}
use Rattle.reader_pass.specs.declared.Stage.TheVariants.{Naming, First, Heads, Log, Ended}
use Rattle.reader_pass.specs.declared.Pass.{Pass}
use Rattle.reader_pass.specs.declared.Wanted.{Wanted}
use Rattle.reader_pass.specs.declared.Verdict.{Verdict}

-- nothing was fed yet
abbrev pub pass_begun : Pass
pass_begun = record { stage = Naming; number = 0; place = 0; geometry = zero_geometry; uuid = replicate 16 0 }

-- ---- what is wanted

-- the offset, or for a place that is not there one behind every file
abbrev pub byte_in : Result ByteOffset ℕ → ℕ
byte_in (Err n) = 2 ^ 64 - 1
byte_in (Ok b) = b.0

-- where block b of group k begins on the device
unfoldable pub place_byte : Geometry → ℕ → ℕ → ℕ
place_byte g k b = byte_in (to_byte_offset g (record { 0 = k; 1 = b }))

-- where the next bytes stand
abbrev pub offset_of : Stage → Geometry → ℕ → ℕ
offset_of Naming g k = 0
offset_of First g k = 0
offset_of Heads g k = place_byte g k 0
offset_of Log g k = place_byte g g.logagno g.log_agbno
offset_of Ended g k = 0

-- and how many they are
abbrev pub stage_length : Stage → Geometry → ℕ
stage_length Naming g = least_sector
stage_length First g = head_length g
stage_length Heads g = head_length g
stage_length Log g = g.blocksize
stage_length Ended g = 0

-- nothing more is wanted
abbrev pub is_ended : Stage → Bool
is_ended Naming = false
is_ended First = false
is_ended Heads = false
is_ended Log = false
is_ended Ended = true

-- what a pass wants next
unfoldable pub pass_wanted : Pass → Wanted
pass_wanted p =
    record {
      offset = offset_of p.stage p.geometry p.place;
      length = stage_length p.stage p.geometry;
      done = is_ended p.stage;
    }

-- ---- what is fed

-- it ends with the number n at the place that came next
abbrev pub pass_ended_by : Pass → ℕ → Pass
pass_ended_by p n = record { stage = Ended; number = n; place = p.place; geometry = p.geometry; uuid = p.uuid }

-- place k is a head, or behind the last head the log's block
unfoldable pub stage_at : Geometry → ℕ → Stage
stage_at g k = cond (ltb k g.agcount) Heads Log

-- the place behind this one; behind the log's block there is none
unfoldable pub following : ℕ → ℕ → ℕ
following k agcount = when (ltb k agcount) (k + 1) k

-- a head has the number n, and with it come geometry and UUID; place k is next
unfoldable pub went_on : Pass → ℕ → Geometry → List ℕ → ℕ → Pass
went_on p n g u k = cond (eqb n 0) (record { stage = stage_at g k; number = 0; place = k; geometry = g; uuid = u }) (pass_ended_by p n)

-- what the first sector names: how long a head is. Plain sizing decides, since roomy sizing accepts nothing more and a head is as long
-- under both
unfoldable pub named_so : Pass → Computed → Pass
named_so p c =
    cond (eqb c.number 0) (record { stage = First; number = 0; place = 0; geometry = c.geometry; uuid = p.uuid })
    (pass_ended_by p not_left)

-- the first sector
unfoldable pub fed_named : Pass → List ℕ → Pass
fed_named p xs = named_so p (named_read false xs)

-- group 0's head, which gives geometry and UUID
unfoldable pub fed_first : Pass → List ℕ → Pass
fed_first p xs = went_on p (read_group0 xs).number (read_group0 xs).geometry (read_group0 xs).uuid 1

-- another group's head, read with these
unfoldable pub pass_fed_head : Pass → List ℕ → Pass
pass_fed_head p xs =
    went_on p (group_number p.geometry p.uuid p.place xs) p.geometry p.uuid (following p.place p.geometry.agcount)

-- the log's first block
unfoldable pub fed_log : Pass → List ℕ → Pass
fed_log p xs = pass_ended_by p (read_log p.geometry p.uuid xs)

-- as many bytes as were asked for
abbrev pub fed_whole : Stage → Pass → List ℕ → Pass
fed_whole Naming p xs = fed_named p xs
fed_whole First p xs = fed_first p xs
fed_whole Heads p xs = pass_fed_head p xs
fed_whole Log p xs = fed_log p xs
fed_whole Ended p xs = p

-- another number of bytes: 27, but nothing is asked for at the end
unfoldable pub fed_short : Stage → Pass → Pass
fed_short s p = cond (is_ended s) p (pass_ended_by p wrong_length)

-- THE PASS after the bytes xs: the first refusal ends it, and the end stays
unfoldable pub pass_fed : Pass → List ℕ → Pass
pass_fed p xs = cond (eqb (length xs) (stage_length p.stage p.geometry)) (fed_whole p.stage p xs) (fed_short p.stage p)

-- ---- what is left in the work buffer: the head that was compared, if it was made there

-- after as many bytes as were asked for
abbrev pub work_in : Stage → Pass → List ℕ → List ℕ
work_in Naming p ws = ws
work_in First p ws = ws
work_in Heads p ws = made_in p.geometry p.uuid p.place ws
work_in Log p ws = ws
work_in Ended p ws = ws

-- after any; bytes of another length leave it as it was
unfoldable pub worked : Pass → List ℕ → List ℕ → List ℕ
worked p xs ws = cond (eqb (length xs) (stage_length p.stage p.geometry)) (work_in p.stage p ws) ws

-- ---- what is said at the end

-- the number n, with the place, the geometry and the UUID that the pass has come to
abbrev pub saying : Pass → ℕ → Verdict
saying p n = record { number = n; place = p.place; geometry = p.geometry; uuid = p.uuid }

-- where it isn't ended, 27 for the bytes that are missing
unfoldable pub pass_verdict : Pass → Verdict
pass_verdict p = cond (is_ended p.stage) (saying p p.number) (saying p wrong_length)
