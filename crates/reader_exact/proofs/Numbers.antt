-- The numbers that the reader gives are its own.
-- Assumes nothing.
use mathlib.Core.Bool.{Bool, true, false, not, ◌&&◌, ◌||◌}
use mathlib.Core.List.{List, [], ◌∷◌}
use Prim.Native.Nat.{ℕ}
use lib.Dec.{T, eqb, leb}
use Rattle.arith.specs.Choice.{when}
use Rattle.endian.proofs.Fields.{and_left, and_right}
use Rattle.refusals.specs.Table.{Refusal, ◌if◌, first}
use Rattle.geometry.specs.declared.Geometry.{Geometry}
use Rattle.head_bytes.specs.Head.{head_length}
use Rattle.list_spec.specs.Listing.{log_block, head_left}
use Rattle.reader_names.specs.Named.{named_by, uuid_at}
use Rattle.reader_exact.specs.declared.Found.{Found}
use Rattle.reader_exact.specs.Read.{first_tests, place_tests, read_sized, read_group0, group_number, read_group, read_log}
use Rattle.reader_exact.proofs.First.{number-as, one-of}
use Rattle.reader_exact.proofs.Others.{number_read}

abbrev pub one_of : List ℕ → ℕ → Bool
one_of [] n = false
one_of (m ∷ ms) n = eqb n m || one_of ms n

-- every number of a table is one of these, but for a test that never holds
abbrev every : List ℕ → List Refusal → Bool
every ms [] = true
every ms ((n if b) ∷ ts) = (one_of ms n || not b) && every ms ts

not-other : (a : Bool) → T (a || false) → T a
not-other true t = tt
not-other false t = t

first_of : (ms : List ℕ) (ts : List Refusal) → T (every ms ts) → T (one_of ms 0) → T (one_of ms (first ts 0))
unfolding when
first_of ms [] t z = z
first_of ms ((n if true) ∷ ts) t z = not-other (one_of ms n) (and_left (one_of ms n || false) (every ms ts) t)
first_of ms ((n if false) ∷ ts) t z = first_of ms ts (and_right (one_of ms n || true) (every ms ts) t) z

-- ---- what each can answer

abbrev pub first_numbers : List ℕ
first_numbers = 0 ∷ 27 ∷ 30 ∷ []

abbrev pub group_numbers : List ℕ
group_numbers = 0 ∷ 27 ∷ 29 ∷ 30 ∷ 31 ∷ []

abbrev pub log_numbers : List ℕ
log_numbers = 0 ∷ 27 ∷ 30 ∷ 31 ∷ []

as-numbers : (xs : List ℕ) (roomy : Bool) → T (one_of first_numbers (read_sized roomy xs).number)
unfolding first_tests
as-numbers xs roomy = rw (number-as roomy xs) (first_of first_numbers (first_tests xs (named_by roomy xs) (uuid_at xs)) tt tt)

pub first-numbers : (xs : List ℕ) → T (one_of first_numbers (read_group0 xs).number)
first-numbers xs = one-of xs (λ (f : Found). T (one_of first_numbers f.number)) (as-numbers xs)

pub group-numbers : (g : Geometry) (u : List ℕ) (k : ℕ) (xs : List ℕ) → T (one_of group_numbers (read_group g u k xs).number)
unfolding group_number place_tests
group-numbers g u k xs =
    rw (number_read g u k xs) (first_of group_numbers (place_tests g (leb g.agcount k) (head_length g) (head_left g u k) xs) tt tt)

pub log-numbers : (g : Geometry) (u xs : List ℕ) → T (one_of log_numbers (read_log g u xs))
unfolding read_log place_tests
log-numbers g u xs = first_of log_numbers (place_tests g false g.blocksize (log_block g u) xs) tt tt
