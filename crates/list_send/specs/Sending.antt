-- Sending a run's list turn by turn: what comes next, what a turn answers, and what all turns have handed out.
-- Assumes nothing.
use Rattle.std.specs.Prelude.{cond, ◌≡◌, List, [], ◌++◌, ℕ, zero, suc, ◌-◌, ◌≤◌, max, leb, eqb, length, take}
use Rattle.refusals.specs.Numbers.{wrong_length, no_place}
use Rattle.endian.specs.Bytes.{patch}
use Rattle.structs.specs.Written.{require}
use Rattle.request.specs.Parse.{parse_def}
use Rattle.run.specs.declared.Run.{Run}
use Rattle.run.specs.Runs.{or_next, accepted}
use Rattle.list_records.specs.Records.{list_bytes}
use Rattle.list_spec.specs.Listing.{list_piece}
use Rattle.list_lengths.specs.declared.Counted.{Counted}
use Rattle.list_lengths.specs.Pieces.{write_number, count_answer, length_answer}
use Rattle.list_write.specs.Writing.{part_bytes}
use Rattle.list_send.specs.declared.Sending.{Sending as State}
use Rattle.list_send.specs.declared.Sent.{Sent}

-- ---- the state

-- `left` of `count` pieces are to come
abbrev pub sending : Run → ℕ → ℕ → ℕ → State
sending run device count left = record { run = run; device = device; count = count; left = left }

-- before the first piece; of a refused run there is none
unfoldable pub sending_begun : List ℕ → State
sending_begun xs =
    let run = accepted xs in
    let n = cond (eqb run.number 0) (count_answer run).value 0 in
    sending run (parse_def xs).device n n

-- the number of the piece that comes next
abbrev pub next_piece : State → ℕ
next_piece s = s.count - s.left

-- with one fewer to come
abbrev pub sending_stepped : State → State
sending_stepped s = sending s.run s.device s.count (s.left - 1)

-- ---- a turn

-- the bytes of the next piece
abbrev pub piece_bytes : State → List ℕ
piece_bytes s = list_bytes (list_piece s.run s.device (next_piece s))

abbrev pub sending_refused : ℕ → Counted
sending_refused n = record { number = n; value = 0 }

-- how many there are: the run's number comes first, then 29 where all are sent
unfoldable pub sending_wanted : State → Counted
sending_wanted s =
    cond (eqb s.run.number 0)
    (cond (eqb s.left 0) (sending_refused no_place) (length_answer s.run (next_piece s)))
    (sending_refused s.run.number)

-- as many as the first head and the root chunk have, whichever has more
unfoldable pub longest_piece : State → ℕ
longest_piece s = max (length_answer s.run 1).value (length_answer s.run (s.count - 2)).value

-- with a work buffer of `work` bytes and a buffer of `len`: 27 where the piece is longer than the buffer, and then what `write_piece`
-- answers in as many bytes as the piece has
unfoldable pub send_number : State → ℕ → ℕ → ℕ
send_number s work len =
    or_next (sending_wanted s).number
    (require wrong_length (leb (sending_wanted s).value len) (write_number s.run (next_piece s) (sending_wanted s).value work))

-- refused, and everything as it was
abbrev pub unsent : State → ℕ → Sent
unsent s n = record { number = n; length = 0; sending = s }

-- what a turn answers
unfoldable pub sent_def : State → ℕ → ℕ → Sent
sent_def s work len =
    let n = send_number s work len in
    cond (eqb n 0) (record { number = 0; length = (sending_wanted s).value; sending = sending_stepped s }) (unsent s n)

-- and leaves in a buffer that held xs: the piece at its start, or what stood there
abbrev pub buffer_after : State → ℕ → List ℕ → List ℕ
buffer_after s work xs = cond (eqb (send_number s work (length xs)) 0) (patch 0 (piece_bytes s) xs) xs

-- and in a work buffer that held ws: the part that the piece is split from
abbrev pub work_after : State → ℕ → List ℕ → List ℕ
work_after s len ws = cond (eqb (send_number s (length ws) len) 0) (patch 0 (part_bytes s.run (next_piece s)) ws) ws

-- All of a turn: what it answers, and what it leaves in both buffers. The bytes that it hands out lie inside the buffer.
pub record Turn (s : State) (r : Sent) (work buf work_left left : List ℕ) : Type 0 where
  pub answered : r ≡ sent_def s (length work) (length buf)
  pub buffer : left ≡ buffer_after s (length work) buf
  pub part : work_left ≡ work_after s (length buf) work
  pub inside : r.length ≤ length left

-- ---- n turns with the same buffers

-- the state after them
unfoldable pub sent_on : ℕ → State → ℕ → ℕ → State
sent_on zero s work len = s
sent_on (suc n) s work len = (sent_def (sent_on n s work len) work len).sending

-- the state after all that are due, with these buffers
abbrev pub all_sent : State → List ℕ → List ℕ → State
all_sent s work buf = sent_on s.left s (length work) (length buf)

-- the bytes that they hand out, one after the other
unfoldable pub handed : ℕ → State → ℕ → List ℕ → List ℕ
handed zero s work xs = []
handed (suc n) s work xs =
    take (sent_def s work (length xs)).length (buffer_after s work xs)
    ++ handed n (sent_def s work (length xs)).sending work (buffer_after s work xs)
