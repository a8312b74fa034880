-- That the pieces of a list have the lengths that `piece_length` answers.
-- Assumes nothing.
use Rattle.std.specs.Prelude.{◌≡◌, ℕ, length}
use Rattle.list_records.specs.Records.{list_bytes}
use Rattle.run.specs.declared.Run.{Run}
use Rattle.list_spec.specs.Listing.{list_piece}
use Rattle.list_lengths.specs.Pieces.{listed_length}

-- the bytes of piece k's records, one after the other, are as many as its length
abbrev pub Long : Run → ℕ → ℕ → Type 0
Long run device k = length (list_bytes (list_piece run device k)) ≡ listed_length run.geometry k
