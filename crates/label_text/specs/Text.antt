-- A label as text that a terminal can show: bytes outside printable ASCII are escaped, and so are the quote and the backslash.
-- Assumes nothing.
use Rattle.std.specs.Prelude.{Bool, true, not, ◌&&◌, cond, List, [], ◌∷◌, ◌++◌, ℕ, ◌+◌, ◌-◌, ◌/◌, ◌%◌, leb, ltb, eqb, length, replicate}
use Rattle.arith.specs.Choice.{when}
use Rattle.endian.specs.Bytes.{patch}
use Rattle.label_text.specs.declared.LabelText.{LabelText}

-- a byte that ASCII can print: from the space to the tilde
abbrev pub printable : ℕ → Bool
printable b = leb 32 b && leb b 126

-- a byte that stands for itself: printable, but neither quote nor backslash
unfoldable pub is_plain : ℕ → Bool
is_plain b = printable b && (not (eqb b 34) && not (eqb b 92))

-- the byte of a hexadecimal digit, in small letters
unfoldable pub hex_digit : ℕ → ℕ
hex_digit d = when (ltb d 10) (48 + d) (87 + d)

-- a byte as text: itself, or a backslash, an x and its two hexadecimal digits
unfoldable pub escape : ℕ → List ℕ
escape b = cond (is_plain b) (b ∷ []) (92 ∷ 120 ∷ hex_digit (b / 16) ∷ hex_digit (b % 16) ∷ [])

-- a byte before a text of n bytes: zeros with nothing behind them only fill the label up, and aren't shown
unfoldable pub shown_byte : ℕ → ℕ → List ℕ
shown_byte b n = cond (eqb b 0 && eqb n 0) [] (escape b)

-- the text of a label
unfoldable pub label_text : List ℕ → List ℕ
label_text [] = []
label_text (b ∷ bs) = shown_byte b (length (label_text bs)) ++ label_text bs

-- the same at the end of 48 bytes, and where it begins
unfoldable pub text_of : List ℕ → LabelText
text_of label =
    record { bytes = patch (48 - length (label_text label)) (label_text label) (replicate 48 0); start = 48 - length (label_text label) }

-- every byte is printable
unfoldable pub all_printable : List ℕ → Bool
all_printable [] = true
all_printable (b ∷ bs) = printable b && all_printable bs
