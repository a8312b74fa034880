-- What the lines of `inquire` are made of: words and numbers, with one byte behind each.
-- Assumes nothing.
use Rattle.std.specs.Prelude.{List, [], ◌∷◌, ◌++◌, Bool, true, false, cond, ℕ}
use Rattle.table_lines.specs.Decimal.{decimal}
use Rattle.table_lines.specs.Lines.{space, newline}
use Rattle.list_size.specs.declared.ListSize.{ListSize}

-- bytes, and one behind them
abbrev pub with_byte : List ℕ → ℕ → List ℕ
with_byte bytes b = bytes ++ (b ∷ [])

-- a word alone, as a line
unfoldable pub word_bytes : List ℕ → List ℕ
word_bytes word = with_byte word newline

-- a word, a space and a number in decimal; behind it a space, or a newline where the line ends
unfoldable pub item_bytes : List ℕ → ℕ → Bool → List ℕ
item_bytes word number last = with_byte word space ++ with_byte (decimal number) (cond last newline space)

-- two words with their numbers, as a line
abbrev pub pair_bytes : List ℕ → ℕ → List ℕ → ℕ → List ℕ
pair_bytes first a second b = item_bytes first a false ++ item_bytes second b true

-- the words `records`, `bytes` and `payload`
abbrev pub records_word : List ℕ
records_word = 114 ∷ 101 ∷ 99 ∷ 111 ∷ 114 ∷ 100 ∷ 115 ∷ []

abbrev pub bytes_word : List ℕ
bytes_word = 98 ∷ 121 ∷ 116 ∷ 101 ∷ 115 ∷ []

abbrev pub payload_word : List ℕ
payload_word = 112 ∷ 97 ∷ 121 ∷ 108 ∷ 111 ∷ 97 ∷ 100 ∷ []

-- how much is sent, as `inquire length` prints it: `records R bytes B payload P`
unfoldable pub size_bytes : ListSize → List ℕ
size_bytes s = item_bytes records_word s.records false ++ pair_bytes bytes_word s.bytes payload_word s.payload
