-- That the buffers that `writelist` lends are long enough for every piece and its part.
-- Assumes nothing.
use Rattle.std.specs.Prelude.{ℕ, ◌-◌, ◌<◌, ◌≤◌}
use Rattle.run.specs.declared.Run.{Run}
use Rattle.list_spec.specs.Listing.{piece_count}
use Rattle.list_lengths.specs.Pieces.{length_answer, part_answer}

-- the longest piece: a head of 10 blocks of 16,384 bytes, each with the 18 bytes before it
abbrev pub longest_piece_bytes : ℕ
longest_piece_bytes = 164020

-- n bytes hold piece k, and the part that it is split from
abbrev pub HoldsPiece : Run → ℕ → ℕ → Type 0
HoldsPiece run n k = ((length_answer run k).value ≤ n) × ((part_answer run k).value ≤ n)

pub record Sufficient (run : Run) : Type 0 where
  -- bytes for the first head and for the root chunk, which is the piece before the last, hold every piece
  pub few : (n k : ℕ) → k < piece_count run → (length_answer run 1).value ≤ n → (length_answer run (piece_count run - 2)).value ≤ n
      → HoldsPiece run n k
  -- and so do those of the longest
  pub most : (k : ℕ) → k < piece_count run → HoldsPiece run longest_piece_bytes k
