-- PAGES: texts below each other, a line each, and the n-th line of a page's bytes.
-- Assumes nothing.
use Rattle.std.specs.Prelude.{Bool, true, not, ◌&&◌, List, [], ◌∷◌, ◌++◌, ℕ, zero, suc, ◌+◌, eqb, take, drop}
use Prim.Native.Char.{code}
use Prim.Native.String.{String, [] as []ˢ, ◌∷◌ as ◌∷ˢ◌}
use Rattle.table_lines.specs.Lines.{newline}
use Rattle.seqs.specs.Lists.{first_index}

-- the bytes of a text in ASCII
unfoldable pub ascii_bytes : String → List ℕ
ascii_bytes []ˢ = []
ascii_bytes (c ∷ˢ s) = code c ∷ ascii_bytes s

abbrev pub is_newline : ℕ → Bool
is_newline b = eqb b newline

-- a page: the bytes of each text, and a newline behind them
unfoldable pub page : List String → List ℕ
page [] = []
page (s ∷ ss) = ascii_bytes s ++ (newline ∷ page ss)

-- bytes without a newline among them
unfoldable pub in_one_line : List ℕ → Bool
in_one_line [] = true
in_one_line (b ∷ bs) = not (is_newline b) && in_one_line bs

-- texts without a newline
unfoldable pub lines_each : List String → Bool
lines_each [] = true
lines_each (s ∷ ss) = in_one_line (ascii_bytes s) && lines_each ss

-- where the first byte b stands, from an offset on; the length where it doesn't
unfoldable pub place_of_byte : ℕ → ℕ → List ℕ → ℕ
place_of_byte b at xs = at + first_index (λ c. eqb c b) (drop at xs)

-- the bytes before the first newline
unfoldable pub first_line : List ℕ → List ℕ
first_line xs = take (first_index is_newline xs) xs

-- the bytes behind the first n newlines
unfoldable pub behind_lines : ℕ → List ℕ → List ℕ
behind_lines zero xs = xs
behind_lines (suc n) xs = behind_lines n (drop (suc (first_index is_newline xs)) xs)

-- LINE n OF A PAGE, the first being line 0; nothing where there are fewer
abbrev pub line_at : ℕ → List ℕ → List ℕ
line_at n xs = first_line (behind_lines n xs)

-- text n of some; `other` where there are fewer
unfoldable pub text_at : String → ℕ → List String → String
text_at other n [] = other
text_at other zero (s ∷ ss) = s
text_at other (suc n) (s ∷ ss) = text_at other n ss
