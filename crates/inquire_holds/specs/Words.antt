-- The words of the calls: `hold:START:LENGTH`, `release:START:LENGTH`, and a decimal number by itself.
-- Assumes nothing.
use Rattle.std.specs.Prelude.{List, [], ◌∷◌, Bool, true, false, ◌&&◌, cond, ℕ, ◌+◌, ltb, eqb, length, take, drop, get_or}
use Rattle.table_lines.specs.Decimal.{value_after}
use Rattle.request_texts.specs.declared.Value.{Value}
use Rattle.request_texts.specs.Texts.{packed_name, leading, within, malformed_value}
use Rattle.inquire_holds.specs.declared.Call.{Call}

-- digits, one at least, and nothing else; a number of more than 64 bits is too large
unfoldable pub number_alone : List ℕ → Value
number_alone text = cond (ltb 0 (leading text) && eqb (leading text) (length text)) (within (value_after 0 text)) malformed_value

-- what is wrong with a word, beside zeros
abbrev pub no_call : ℕ → Call
no_call n = record { number = n; release = false; at = 0; length = 0 }

-- the call of two numbers, or what is wrong with the first that is refused
unfoldable pub called_with : Bool → Value → Value → Call
called_with release a n =
    cond (eqb a.number 0)
    (cond (eqb n.number 0) (record { number = 0; release = release; at = a.value; length = n.value }) (no_call n.number))
    (no_call a.number)

abbrev pub colon : ℕ
colon = 58

-- `START:LENGTH`
unfoldable pub run_in : Bool → List ℕ → Call
run_in release text =
    cond (ltb (leading text) (length text) && eqb (get_or text (leading text) 0) colon)
    (called_with release (number_alone (take (leading text) text)) (number_alone (drop (leading text + 1) text)))
    (no_call 3)

-- the names `hold` and `release` as numbers
abbrev pub hold_name : ℕ
hold_name = packed_name (104 ∷ 111 ∷ 108 ∷ 100 ∷ [])

abbrev pub release_name : ℕ
release_name = packed_name (114 ∷ 101 ∷ 108 ∷ 101 ∷ 97 ∷ 115 ∷ 101 ∷ [])

-- the text begins with a name of n bytes and a colon
unfoldable pub word_is : ℕ → ℕ → List ℕ → Bool
word_is n name text = ltb n (length text) && (eqb (packed_name (take n text)) name && eqb (get_or text n 0) colon)

-- `hold:START:LENGTH` or `release:START:LENGTH`; any other word is malformed
unfoldable pub call_in : List ℕ → Call
call_in text =
    cond (word_is 4 hold_name text) (run_in false (drop 5 text))
    (cond (word_is 7 release_name text) (run_in true (drop 8 text)) (no_call 3))
