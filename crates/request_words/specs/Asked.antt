-- The input records that words ask for: the device, the options by their codes, the label, the UUID.
-- Assumes nothing.
use Rattle.std.specs.Prelude.{List, [], ◌∷◌, ◌++◌, cond, ◌≡◌, ℕ, zero, suc, ◌+◌, ◌-◌, ◌*◌, ◌%◌, ◌≤◌, min, ltb, leb, eqb, length, get_or}
use Rattle.refusals.specs.Numbers.{wrong_length}
use Rattle.arith.specs.Choice.{when}
use Rattle.endian.specs.Bytes.{patch}
use Rattle.endian.specs.Fields.{part}
use Rattle.request.specs.Cases.{dv, op, lb, id}
use Rattle.request_words.specs.Values.{label_key, size_key, logical_key, physical_key, uuid_key, codes, hex}
use Rattle.request_words.specs.Words.{word_with, given, words_from, words_verdict}
use Rattle.request_words.specs.declared.Word.{Word}
use Rattle.request_words.specs.declared.Made.{Made}
use Rattle.request_words.specs.declared.Verdict.{Verdict}

-- ---- the UUID's bytes

-- where the two digits of byte j stand in its text: behind four dashes at most
unfoldable pub digits_at : ℕ → ℕ
digits_at j = 2 * j + when (ltb j 4) 0 (when (ltb j 6) 1 (when (ltb j 8) 2 (when (ltb j 10) 3 4)))

unfoldable pub pair_at : ℕ → ℕ → List ℕ → ℕ
pair_at from j xs = hex (get_or xs (from + digits_at j) 0) % 16 * 16 + hex (get_or xs (from + (digits_at j + 1)) 0) % 16

-- n bytes, from byte j on
unfoldable pub pairs : ℕ → ℕ → ℕ → List ℕ → List ℕ
pairs zero j from xs = []
pairs (suc n) j from xs = pair_at from j xs ∷ pairs n (j + 1) from xs

-- ---- the records

unfoldable pub device_record : List Word → List ℕ
device_record ws = dv (word_with size_key ws).value (word_with logical_key ws).value (word_with physical_key ws).value

unfoldable pub option_record : ℕ → List Word → List ℕ
option_record code ws = cond (given code ws) (op code (word_with code ws).value) []

-- n options, from a code on
unfoldable pub option_records : ℕ → ℕ → List Word → List ℕ
option_records zero code ws = []
option_records (suc n) code ws = option_record code ws ++ option_records n (code + 1) ws

-- the bytes of the label's text; a text of more than 12 bytes is refused
abbrev pub label_word_text : Word → List ℕ → List ℕ
label_word_text w xs = part w.from (min (w.end - w.from) 12) xs

unfoldable pub label_record : List Word → List ℕ → List ℕ
label_record ws xs = cond (given label_key ws) (lb (label_word_text (word_with label_key ws) xs)) []

unfoldable pub uuid_record : List Word → List ℕ → List ℕ
uuid_record ws xs = cond (eqb (word_with uuid_key ws).value 1) (id (pairs 16 0 (word_with uuid_key ws).from xs)) []

abbrev pub words_records : List Word → List ℕ → List ℕ
words_records ws xs = device_record ws ++ (option_records codes 1 ws ++ (label_record ws xs ++ uuid_record ws xs))

-- what the words ask for
unfoldable pub words_request : List ℕ → List ℕ
words_request xs = words_records (words_from 0 xs) xs

-- the label's and the UUID's record by the words' bytes
abbrev pub label_record_of : List ℕ → List ℕ
label_record_of xs = label_record (words_from 0 xs) xs

abbrev pub uuid_record_of : List ℕ → List ℕ
uuid_record_of xs = uuid_record (words_from 0 xs) xs

-- the records of every word at its longest: the device's 18 bytes, 13 options of 11, a label of 15, a UUID of 18
abbrev pub longest : ℕ
longest = 194

-- ---- the answer

abbrev pub made_as : ℕ → ℕ → ℕ → ℕ → Made
made_as number index key length = record { number = number; index = index; key = key; length = length }

-- number 0 and the records' length; or 27 for a buffer of fewer than `longest` bytes, or what is wrong, and then no byte of the buffer has
-- changed
abbrev pub made_of : Verdict → List ℕ → List ℕ → Made
made_of v xs old =
    cond (leb longest (length old))
    (cond (eqb v.number 0) (made_as 0 0 0 (length (words_request xs))) (made_as v.number v.index v.key 0))
    (made_as wrong_length 0 0 0)

abbrev pub left_of : Verdict → List ℕ → List ℕ → List ℕ
left_of v xs old = cond (leb longest (length old)) (cond (eqb v.number 0) (patch 0 (words_request xs) old) old) old

pub record Makes (xs old : List ℕ) (r : Made) (left : List ℕ) : Type 0 where
  pub answer : r ≡ made_of (words_verdict xs) xs old
  pub bytes : left ≡ left_of (words_verdict xs) xs old

-- a write of bytes at `at`, at most `most` of them: where they end, and what the buffer holds then
pub record Puts (at : ℕ) (bytes : List ℕ) (most : ℕ) (old : List ℕ) (end : ℕ) (left : List ℕ) : Type 0 where
  pub ends : end ≡ at + length bytes
  pub fits : length bytes ≤ most
  pub left_is : left ≡ patch at bytes old
