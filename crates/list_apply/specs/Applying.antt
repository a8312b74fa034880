-- Taking up a list of written records piece by piece: what is wanted next, and what a piece that is fed asks for.
-- Assumes nothing.
use Rattle.std.specs.Prelude.{ℕ, ◌+◌, ◌-◌, ◌%◌, ◌^◌, min, Bool, true, false, cond, ◌&&◌, List, length, ◌==◌, nat_le, nat_lt}
use Rattle.list_read.specs.Records.{flush, zeros_kind, decode_def, within_def}
use Rattle.list_read.specs.Flushes.{next_def, ended_def}
use Rattle.list_apply.specs.declared.Applying.{Applying as State}
use Rattle.list_apply.specs.declared.Step.{Step}

-- ---- how it stands with a list
abbrev pub goes_on : ℕ
goes_on = 0

abbrev pub ended : ℕ
ended = 1

abbrev pub list_cut : ℕ
list_cut = 2

abbrev pub list_malformed : ℕ
list_malformed = 3

abbrev pub record_behind : ℕ
record_behind = 4

abbrev pub too_far : ℕ
too_far = 5

-- ---- how it stands with the first record: to come, zeros that wait for the next head, or past
abbrev pub first_to_come : ℕ
first_to_come = 0

abbrev pub held : ℕ
held = 1

abbrev pub past : ℕ
past = 2

-- what is done for zeros that waited: all of them, and then a flush
abbrev pub first_done : ℕ
first_done = 4

-- the limit, how it stands with the first record, the record in hand, the flushes before it, and what is left of it
abbrev pub state : ℕ → ℕ → ℕ → Bool → ℕ → ℕ → ℕ → ℕ → ℕ → State
state limit first stop marked ordinal flushes kind at left =
    record {
      stop = stop;
      marked = marked;
      ordinal = ordinal;
      flushes = flushes;
      kind = kind;
      at = at;
      left = left;
      limit = limit;
      first = first;
    }

-- before the first record
abbrev pub applying_begun : ℕ → State
applying_begun limit = state limit first_to_come goes_on false 1 0 0 0 0

-- ---- what is wanted

-- a mark, or the whole head where the mark is here
abbrev pub head_bytes_wanted : Bool → ℕ
head_bytes_wanted true = 18
head_bytes_wanted false = 2

-- the bytes of it that were fed before: the mark
abbrev pub kept_of : State → ℕ
kept_of a = cond a.marked 2 0

-- what is left of a record, as much as `size` bytes hold
abbrev pub piece_length : State → ℕ → ℕ
piece_length a size = min a.left size

-- a head is next: behind a whole record, and while the first one waits
unfoldable pub head_next : State → Bool
head_next a = cond (a.first == held) true (a.left == 0)

-- nothing where it stopped; a head behind a whole record; nothing more for zeros; or a piece of a block
unfoldable pub applying_wanted : State → ℕ → ℕ
applying_wanted a size =
    cond (a.stop == goes_on)
    (cond (head_next a) (head_bytes_wanted a.marked) (cond (a.kind == zeros_kind) 0 (piece_length a size)))
    0

-- ---- what is to be done

-- nothing
abbrev pub idle_step : State → Step
idle_step a = record { applying = a; action = 0; at = 0; len = 0 }

-- nothing, and no more after this
abbrev pub stopped_by : State → ℕ → Step
stopped_by a stop = idle_step (state a.limit a.first stop a.marked a.ordinal a.flushes a.kind a.at a.left)

-- nothing until all of the head is here
abbrev pub marked_step : State → Step
marked_step a = idle_step (state a.limit a.first a.stop true a.ordinal a.flushes a.kind a.at a.left)

-- the input ends before a record: the list is cut unless two flushes are past
unfoldable pub input_ended : State → Step
input_ended a = cond (ended_def a.flushes == 0) (stopped_by a ended) (stopped_by a list_cut)

-- the record in hand, where so many bytes of this one are left
unfoldable pub following_of : ℕ → ℕ → ℕ
following_of ordinal left = cond (left == 0) ((ordinal + 1) % 2 ^ 64) ordinal

-- a record's head: a flush is done at once, what it writes comes in pieces
unfoldable pub taken_up : State → ℕ → ℕ → ℕ → ℕ → Step
taken_up a flushes kind at len =
    record {
      applying = state a.limit past goes_on false (following_of a.ordinal len) flushes kind at len;
      action = cond (kind == flush) flush 0;
      at = 0;
      len = 0;
    }

-- zeros wait where they are the first record
unfoldable pub waits_def : ℕ → ℕ → Bool
waits_def first kind = first == first_to_come && kind == zeros_kind

-- nothing is done for them until the next head is in order
unfoldable pub held_back : State → ℕ → ℕ → Step
held_back a at len = idle_step (state a.limit held goes_on false (following_of a.ordinal 0) a.flushes zeros_kind at len)

-- the next head: all zeros that waited are done, and then a flush, which is that of the next record where it is one
unfoldable pub released : State → ℕ → ℕ → ℕ → ℕ → Step
released a flushes kind at len =
    record {
      applying = state a.limit past goes_on false (following_of a.ordinal len) flushes kind at len;
      action = first_done;
      at = a.at;
      len = a.left;
    }

-- a head that is in order
unfoldable pub accepted_by : State → ℕ → ℕ → ℕ → ℕ → Step
accepted_by a flushes kind at len =
    cond (a.first == held) (released a flushes kind at len)
    (cond (waits_def a.first kind) (held_back a at len) (taken_up a flushes kind at len))

-- the next n bytes of what a record writes
unfoldable pub put_piece : State → ℕ → Step
put_piece a n =
    record {
      applying = state a.limit a.first goes_on false (following_of a.ordinal (a.left - n)) a.flushes a.kind
          ((a.at + n) % 2 ^ 64) (a.left - n);
      action = a.kind;
      at = a.at;
      len = n;
    }

-- a write of `len` bytes at the offset `at` ends no later than the limit, and where a file can
unfoldable pub in_limit : ℕ → ℕ → ℕ → Bool
in_limit limit at len = nat_le (at + len) limit && within_def at len

-- a record may not stand behind the second flush, nor end behind the limit or where no file can
unfoldable pub fed_record : State → ℕ → ℕ → ℕ → Step
fed_record a kind at len =
    cond ((next_def a.flushes kind).number == 0)
    (cond (in_limit a.limit at len) (accepted_by a (next_def a.flushes kind).flushes kind at len) (stopped_by a too_far))
    (stopped_by a record_behind)

-- a head, or a mark; the list ends with them where they are fewer bytes than wanted
unfoldable pub fed_decoded : State → List ℕ → Step
fed_decoded a xs =
    let d = decode_def (nat_lt (length xs) (head_bytes_wanted a.marked)) xs in
    cond (d.number == 0)
    (cond (d.kind == 0) (marked_step a) (fed_record a d.kind d.at d.len))
    (stopped_by a list_malformed)

-- no byte in place of a mark: the input ends
unfoldable pub applying_fed_head : State → List ℕ → Step
applying_fed_head a xs = cond a.marked (fed_decoded a xs) (cond (length xs == 0) (input_ended a) (fed_decoded a xs))

-- a piece of a block is applied whole, or the list is cut in it
unfoldable pub fed_bytes : State → List ℕ → ℕ → Step
fed_bytes a xs size = cond (nat_lt (length xs) (piece_length a size)) (stopped_by a list_malformed) (put_piece a (piece_length a size))

-- the bytes that were wanted, in a buffer of `size`
unfoldable pub applying_fed : State → List ℕ → ℕ → Step
applying_fed a xs size =
    cond (a.stop == goes_on)
    (cond (head_next a) (applying_fed_head a xs) (cond (a.kind == zeros_kind) (put_piece a (piece_length a size)) (fed_bytes a xs size)))
    (idle_step a)
