-- That the turns of a sending program hand out the list of the run that its input asks for, and nothing of a refused one.
-- Assumes nothing.
use Rattle.std.specs.Prelude.{◌≡◌, List, ℕ, ◌<◌, ◌≤◌, length}
use Rattle.run.specs.declared.Run.{Run}
use Rattle.list_records.specs.Records.{list_bytes}
use Rattle.list_spec.specs.Listing.{list_of, piece_count}
use Rattle.list_send.specs.declared.Sending.{Sending as State}
use Rattle.list_send.specs.Sending.{longest_piece, send_number, unsent, sent_def, buffer_after, work_after, sent_on, handed}
use Rattle.list_laws.specs.Room.{longest_piece_bytes}

-- From the state s on, with two buffers that hold the longest piece: `room` bytes to work in, and one that held `xs` at first.
pub record SendsAll (s : State) (run : Run) (device : ℕ) : Type 0 where
  -- as many turns as the list has pieces
  pub turns : s.left ≡ piece_count run
  -- no buffer needs to be longer than the longest piece of any run
  pub most : longest_piece s ≤ longest_piece_bytes
  -- none of them is refused
  pub accepts : (n work len : ℕ) → n < s.left → longest_piece s ≤ work → longest_piece s ≤ len
      → send_number (sent_on n s work len) work len ≡ 0
  -- THE BYTES THAT THEY HAND OUT, ONE AFTER THE OTHER, ARE THE LIST
  pub whole : (work : ℕ) (xs : List ℕ) → longest_piece s ≤ work → longest_piece s ≤ length xs
      → handed s.left s work xs ≡ list_bytes (list_of run device)
  -- and no piece is left then
  pub ends : (work len : ℕ) → longest_piece s ≤ work → longest_piece s ≤ len → (sent_on s.left s work len).left ≡ 0

-- In the state s no turn is due, and one that is tried gets this number and leaves both buffers as they were.
pub record SendsNone (s : State) (number : ℕ) : Type 0 where
  pub turns : s.left ≡ 0
  pub answers : (work len : ℕ) → sent_def s work len ≡ unsent s number
  pub buffer : (work : ℕ) (xs : List ℕ) → buffer_after s work xs ≡ xs
  pub work : (len : ℕ) (ws : List ℕ) → work_after s len ws ≡ ws
