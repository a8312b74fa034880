-- A list of written records, read from its start: the head of a record, by its mark, and the bytes behind it.
-- Assumes nothing.
use Rattle.std.specs.Prelude.{List, [], Bool, cond, ℕ, ◌+◌, ◌^◌, ◌<◌, leb, eqb, length}
use Rattle.refusals.specs.Numbers.{malformed}
use Rattle.endian.specs.Bytes.{be_at}
use Rattle.list_records.specs.Records.{Record, WZ, Wb, FL}
use Rattle.list_read.specs.declared.Decoded.{Decoded}

-- ---- marks and kinds

-- `FL`, `WZ`, `Wb`
abbrev pub flush_mark : ℕ
flush_mark = 0x464c

abbrev pub zeros_mark : ℕ
zeros_mark = 0x575a

abbrev pub bytes_mark : ℕ
bytes_mark = 0x5742

-- what a record asks for
abbrev pub flush : ℕ
flush = 1

abbrev pub zeros_kind : ℕ
zeros_kind = 2

abbrev pub bytes : ℕ
bytes = 3

-- ---- a head

-- a head with its kind, the offset and length of the write, and its own size
abbrev pub head : ℕ → ℕ → ℕ → ℕ → Decoded
head kind at len size = record { number = 0; kind = kind; at = at; len = len; size = size }

-- no head yet: more bytes are needed
abbrev pub head_incomplete : Decoded
head_incomplete = head 0 0 0 0

abbrev pub head_refused : Decoded
head_refused = record { number = malformed; kind = 0; at = 0; len = 0; size = 0 }

-- too few bytes for a head: malformed where the list ends with them
abbrev pub head_cut : Bool → Decoded
head_cut last = cond last head_refused head_incomplete

-- a write's head: the mark, the offset and the length in 8 bytes each
unfoldable pub write_head : Bool → ℕ → List ℕ → Decoded
write_head last kind xs = cond (leb 18 (length xs)) (head kind (be_at 8 2 xs) (be_at 8 10 xs) 18) (head_cut last)

-- by the mark; an unknown one is malformed
abbrev pub head_by_mark : ℕ → Bool → List ℕ → Decoded
head_by_mark mark last xs =
    cond (eqb mark flush_mark) (head flush 0 0 2)
    (cond (eqb mark zeros_mark) (write_head last zeros_kind xs)
    (cond (eqb mark bytes_mark) (write_head last bytes xs) head_refused))

-- The head that the bytes begin with; `last` where the list ends with them.
unfoldable pub decode_def : Bool → List ℕ → Decoded
decode_def last xs = cond (leb 2 (length xs)) (head_by_mark (be_at 2 0 xs) last xs) (head_cut last)

-- ---- where a write ends

-- the end of the largest file or device
abbrev pub largest_offset : ℕ
largest_offset = 0x7fff_ffff_ffff_ffff

-- A write of `len` bytes at the offset `at` ends no later.
unfoldable pub within_def : ℕ → ℕ → Bool
within_def at len = leb (at + len) largest_offset

-- ---- as they are written

-- what a record's head says
abbrev pub head_said : Record → Decoded
head_said FL = head flush 0 0 2
head_said (WZ at len) = head zeros_kind at len 18
head_said (Wb at bs) = head bytes at (length bs) 18

-- the bytes behind its head
abbrev pub payload_of : Record → List ℕ
payload_of FL = []
payload_of (WZ at len) = []
payload_of (Wb at bs) = bs

-- its offset and length fit 8 bytes
abbrev pub RecordFits : Record → Type 0
RecordFits w = ((head_said w).at < 2 ^ 64) × ((head_said w).len < 2 ^ 64)
