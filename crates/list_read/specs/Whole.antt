-- A whole list of written records, read from its bytes alone.
-- Assumes nothing.
use Rattle.std.specs.Prelude.{◌≡◌, List, [], ◌∷◌, ◌++◌, true, cond, ◌&&◌, ℕ, zero, suc, leb, eqb, length, take, drop}
use Rattle.refusals.specs.Numbers.{malformed}
use Rattle.list_records.specs.Records.{Record, WZ, Wb, FL, All}
use Rattle.list_read.specs.declared.Decoded.{Decoded}
use Rattle.list_read.specs.Records.{flush, zeros_kind, decode_def, RecordFits}
use Rattle.list_read.specs.Flushes.{next_def, ended_def}

-- the record with this head, whose bytes `xs` begins with
unfoldable pub record_of : Decoded → List ℕ → Record
record_of d xs = cond (eqb d.kind flush) FL (cond (eqb d.kind zeros_kind) (WZ d.at d.len) (Wb d.at (take d.len xs)))

-- how many bytes behind its head are its own
unfoldable pub own : Decoded → ℕ
own d = cond (eqb d.kind flush) 0 (cond (eqb d.kind zeros_kind) 0 d.len)

-- 0 for a whole list, 28 for another; and the records before its end, or before the first that is refused
pub record ListRead : Type 0 where
  pub number : ℕ
  pub records : List Record

-- no record more
abbrev pub read_stopped : ℕ → ListRead
read_stopped n = record { number = n; records = [] }

-- a record, and what was read behind it
abbrev pub read_before : Record → ListRead → ListRead
read_before w r = record { number = r.number; records = w ∷ r.records }

-- The rest of a list, `n` flushes being past. Where no byte is left it ends. Else a record stands here whose head is whole and known, which
-- is not behind the second flush and whose bytes are all here, and the rest follows; any other bytes are malformed. The first number only
-- bounds how many records are read.
unfoldable pub read_from : ℕ → ℕ → List ℕ → ListRead
read_from zero n xs = read_stopped malformed
read_from (suc most) n xs =
    let d = decode_def true xs in
    let p = next_def n d.kind in
    let behind = drop d.size xs in
    cond (eqb (length xs) 0) (read_stopped (ended_def n))
    (cond (eqb d.number 0 && (eqb p.number 0 && leb (own d) (length behind)))
    (read_before (record_of d behind) (read_from most p.flushes (drop (own d) behind)))
    (read_stopped malformed))

-- THE LIST OF THESE BYTES: no list has more records than bytes
unfoldable pub read_list : List ℕ → ListRead
read_list xs = read_from (suc (length xs)) 0 xs

-- ---- what it promises

-- every record's offset and length fit 8 bytes
abbrev pub AllFit : List Record → Type 0
AllFit ws = All RecordFits ws

-- a whole list, of these records
abbrev pub whole_list : List Record → ListRead
whole_list ws = record { number = 0; records = ws }

-- refused, and what was read are the first of these records
abbrev pub CutOff : List Record → ListRead → Type 0
CutOff ws r = (r.number ≡ malformed) × ((rest : List Record) × (ws ≡ r.records ++ rest))
