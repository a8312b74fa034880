-- What a text says: a name, as a number; a decimal number with a suffix.
-- Assumes nothing.
use Rattle.std.specs.Prelude.{List, [], ◌∷◌, Bool, not, ◌&&◌, cond, ℕ, ◌+◌, ◌-◌, ◌*◌, ◌^◌, leb, ltb, eqb, take, drop}
use Rattle.arith.specs.Choice.{when}
use Rattle.seqs.specs.Lists.{first_index, fold}
use Rattle.table_lines.specs.Decimal.{value_after}
use Rattle.request_texts.specs.declared.Value.{Value}

-- ---- what a text gives: a value, or the number of what is wrong with it

abbrev pub said : ℕ → ℕ → Value
said number value = record { number = number; value = value }

abbrev pub good_value : ℕ → Value
good_value n = said 0 n

abbrev pub malformed_value : Value
malformed_value = said 3 0

abbrev pub too_large : Value
too_large = said 4 0

-- a number, where it has 64 bits or fewer
abbrev pub within : ℕ → Value
within n = cond (ltb n (2 ^ 64)) (good_value n) too_large

-- ---- names

-- a small letter or a digit as a digit of base 37, from 1 on; 0 for any other byte
unfoldable pub letter : ℕ → ℕ
letter b = cond (ltb 122 b) 0 (cond (ltb 96 b) (b - 96) (cond (ltb 57 b) 0 (cond (ltb 47 b) (b - 21) 0)))

-- what is no name: a byte that a name hasn't, or more bytes than a name has
abbrev pub not_name : ℕ
not_name = 2 ^ 63

unfoldable pub named : ℕ → ℕ → ℕ
named v b = cond (ltb v (2 ^ 58) && ltb 0 (letter b)) (v * 37 + letter b) not_name

-- a name as a number in base 37; no digit is 0, so two names have two numbers
unfoldable pub packed_name : List ℕ → ℕ
packed_name = fold named 0

-- ---- numbers

abbrev pub is_digit : ℕ → Bool
is_digit b = leb 48 b && leb b 57

-- how many digits the text begins with
unfoldable pub leading : List ℕ → ℕ
leading text = first_index (λ b. not (is_digit b)) text

-- what a suffix multiplies by: K, M, G, T, P, E; 0 for any other byte
unfoldable pub suffix : ℕ → ℕ
suffix b =
    when (eqb b 75) (2 ^ 10)
    (when (eqb b 77) (2 ^ 20)
    (when (eqb b 71) (2 ^ 30)
    (when (eqb b 84) (2 ^ 40)
    (when (eqb b 80) (2 ^ 50)
    (when (eqb b 69) (2 ^ 60) 0)))))

-- what stands behind the digits: nothing, or one suffix; 0 for anything else
unfoldable pub factor : List ℕ → ℕ
factor [] = 1
factor (b ∷ []) = suffix b
factor (b ∷ c ∷ bs) = 0

-- digits, one at least, and a suffix or none
unfoldable pub number_text : List ℕ → Value
number_text text =
    cond (eqb (leading text) 0) malformed_value
    (cond (eqb (factor (drop (leading text) text)) 0) malformed_value
    (within (value_after 0 (take (leading text) text) * factor (drop (leading text) text))))
