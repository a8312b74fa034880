-- That the size of an input is the size of what `writelist` sends for it.
-- Assumes nothing.
use Rattle.std.specs.Prelude.{◌≡◌, List, ℕ, ◌^◌, ◌<◌, ◌≤◌, length}
use Rattle.request.specs.Parse.{parse_def}
use Rattle.run.specs.Runs.{accepted}
use Rattle.list_records.specs.Records.{payload as carried_by}
use Rattle.list_read.specs.Whole.{ListRead, read_list}
use Rattle.list_send.specs.Sending.{sending_begun, longest_piece, handed}
use Rattle.list_laws.specs.Whole.{sent_all}
use Rattle.list_size.specs.Sizes.{no_size, input_size}
use Rattle.list_size.specs.Closed.{closed_size}

-- the bytes that the turns of `writelist` hand out, with `work` bytes to work in and a buffer that held `ys` at first
abbrev pub sent_for : List ℕ → ℕ → List ℕ → List ℕ
sent_for xs work ys = handed (sending_begun xs).left (sending_begun xs) work ys

-- both are long enough for the longest piece
abbrev pub Enough : List ℕ → ℕ → List ℕ → Type 0
Enough xs work ys = (longest_piece (sending_begun xs) ≤ work) × (longest_piece (sending_begun xs) ≤ length ys)

-- ---- an accepted input
pub record Announced (xs : List ℕ) : Type 0 where
  -- as many bytes as are sent
  pub bytes : (work : ℕ) (ys : List ℕ) → Enough xs work ys → (input_size xs).bytes ≡ length (sent_for xs work ys)
  -- these are a whole list, of as many records, whose WB carry as many bytes
  pub whole : (work : ℕ) (ys : List ℕ) → Enough xs work ys → (read_list (sent_for xs work ys)).number ≡ 0
  pub records : (work : ℕ) (ys : List ℕ) → Enough xs work ys → (input_size xs).records ≡ length (read_list (sent_for xs work ys)).records
  pub payload : (work : ℕ) (ys : List ℕ) → Enough xs work ys → (input_size xs).payload ≡ carried_by (read_list (sent_for xs work ys)).records
  -- the pieces that `write_piece` makes have as many bytes together
  pub chunks : (input_size xs).bytes ≡ length (sent_all (accepted xs) (parse_def xs).device)
  -- the three in closed form: w + 5, 58 + w × (18 + block size), w × block size, for 1 + groups × head + piece + header blocks; below 2^50
  pub closed : input_size xs ≡ closed_size (accepted xs).geometry
  pub small : (input_size xs).bytes < 2 ^ 50

-- ---- every input
pub record Booked (xs : List ℕ) : Type 0 where
  -- the number is writelist's
  pub number : (input_size xs).number ≡ (sending_begun xs).run.number
  pub accepted-size : (input_size xs).number ≡ 0 → Announced xs
  -- a refusal is a number beside zeros, and no turn is due
  pub refused-size : ((input_size xs).number ≡ 0 → ⊥) → (input_size xs ≡ no_size (input_size xs).number) × ((sending_begun xs).left ≡ 0)
