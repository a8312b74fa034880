-- That what `writelist` sends for an accepted run, and `applylist` reads, is exactly the run's list.
-- Assumes nothing.
use Rattle.std.specs.Prelude.{◌≡◌, List, [], ◌++◌, ℕ, zero, suc, ◌<◌, ◌≤◌, length, take}
use Rattle.refusals.specs.Numbers.{no_place}
use Rattle.structs.specs.Written.{Written}
use Rattle.list_records.specs.Records.{list_bytes}
use Rattle.list_read.specs.Whole.{read_list, whole_list, CutOff}
use Rattle.run.specs.declared.Run.{Run}
use Rattle.list_spec.specs.Listing.{list_of, piece_count, list_piece, list_length}
use Rattle.list_lengths.specs.Pieces.{piece_number, write_number, count_answer, length_answer, part_answer}

-- the largest head, LARGEST_HEAD of crate group_bytes: 10 blocks of 16,384 bytes
abbrev pub largest_head : ℕ
largest_head = 163840

-- the bytes of piece k
abbrev pub sent : Run → ℕ → ℕ → List ℕ
sent run device k = list_bytes (list_piece run device k)

-- the bytes of the first n pieces, one after the other
unfoldable pub sent_to : Run → ℕ → ℕ → List ℕ
sent_to run device zero = []
sent_to run device (suc n) = sent_to run device n ++ sent run device n

-- those of all pieces
abbrev pub sent_all : Run → ℕ → List ℕ
sent_all run device = sent_to run device (piece_count run)

pub record WrittenWhole (run : Run) (device : ℕ) : Type 0 where
  -- `piece_count` answers how many pieces there are
  pub counted : count_answer run ≡ record { number = 0; value = piece_count run }
  -- `piece_length` answers each one's bytes, and `part_length` at most the largest head
  pub long : (k : ℕ) → k < piece_count run → length_answer run k ≡ record { number = 0; value = length (sent run device k) }
  pub part : (k : ℕ) → k < piece_count run → ((part_answer run k).number ≡ 0) × ((part_answer run k).value ≤ largest_head)
  -- `write_piece` accepts each one in a buffer of its length, with a work buffer of `work` bytes, the largest head's or more
  pub accepts : (k work : ℕ) → k < piece_count run → largest_head ≤ work → write_number run k (length (sent run device k)) work ≡ 0
  -- by its contract it answers 0 and leaves the piece's bytes in a buffer of the length answered, with a work buffer no shorter than
  -- answered
  pub leaves : (k work r : ℕ) (old left : List ℕ) → k < piece_count run → (part_answer run k).value ≤ work
      → length old ≡ (length_answer run k).value
      → Written (write_number run k (length old) work) (sent run device k) old r left → (r ≡ 0) × (left ≡ sent run device k)
  -- there is no other piece
  pub none : (k len work : ℕ) → piece_count run ≤ k → (piece_number run k ≡ no_place) × (write_number run k len work ≡ no_place)
  -- all pieces, one after the other, are the list's bytes: as many as the closed form says
  pub whole : sent_all run device ≡ list_bytes (list_of run device)
  pub bytes : length (sent_all run device) ≡ list_length run.geometry
  -- read by themselves they are the list's records; cut at any byte they are refused, and what was read until then are its first records
  pub back : read_list (sent_all run device) ≡ whole_list (list_of run device)
  pub cut : (i : ℕ) → i < length (sent_all run device) → CutOff (list_of run device) (read_list (take i (sent_all run device)))
