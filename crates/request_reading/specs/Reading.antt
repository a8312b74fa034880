-- The records that words ask for are well-formed, and read back as the words have them.
-- Assumes nothing.
use Rattle.std.specs.Prelude.{List, ◌++◌, ◌≡◌, true, cond, ℕ, ◌-◌, ◌≤◌, eqb, length, replicate, Option, Some, None}
use Rattle.endian.specs.Bytes.{be_at}
use Rattle.params.specs.declared.Label.{Label}
use Rattle.params.specs.Params.{no_label}
use Rattle.request_input.specs.Records.{well_formed, label, uuid, option, records, value_with as lookup_record}
use Rattle.request.specs.Options.{label_given, uuid_given}
use Rattle.request_words.specs.declared.Word.{Word}
use Rattle.request_words.specs.Values.{label_key, size_key, logical_key, physical_key, uuid_key, codes}
use Rattle.request_words.specs.Words.{word_with, given, words_from}
use Rattle.request_words.specs.Asked.{pairs, label_word_text, words_request}

-- `parse` never answers 28 to what words ask for
unfoldable pub Readable : Type 0
Readable = (xs : List ℕ) → well_formed (words_request xs) ≡ true

-- the option that a word gives, by its code
abbrev pub option_asked : ℕ → List Word → Option ℕ
option_asked code ws = cond (given code ws) (Some (word_with code ws).value) None

-- each option that is read back is the word's, and absent where there is no word
unfoldable pub OptionsReadBack : Type 0
OptionsReadBack = (xs : List ℕ) (code : ℕ) → 1 ≤ code → code ≤ codes
    → lookup_record (option code) (records 0 (words_request xs)) ≡ option_asked code (words_from 0 xs)

-- so are the device's size and sectors, which no accepted words lack
unfoldable pub DeviceReadBack : Type 0
DeviceReadBack = (xs : List ℕ) → given size_key (words_from 0 xs) ≡ true → given logical_key (words_from 0 xs) ≡ true
    → given physical_key (words_from 0 xs) ≡ true
    → (be_at 8 2 (words_request xs) ≡ (word_with size_key (words_from 0 xs)).value)
    × (be_at 4 10 (words_request xs) ≡ (word_with logical_key (words_from 0 xs)).value)
    × (be_at 4 14 (words_request xs) ≡ (word_with physical_key (words_from 0 xs)).value)

-- the label that a word gives: its length, and its bytes filled up with zeros
abbrev pub label_asked : List Word → List ℕ → Label
label_asked ws xs =
    let text = label_word_text (word_with label_key ws) xs in
    cond (given label_key ws) (record { length = length text; bytes = text ++ replicate (12 - length text) 0 }) no_label

-- the UUID that a word gives: the bytes that its pairs of digits are
abbrev pub uuid_asked : List Word → List ℕ → Option (List ℕ)
uuid_asked ws xs = cond (eqb (word_with uuid_key ws).value 1)
    (Some (pairs 16 0 (word_with uuid_key ws).from xs)) None

-- the label that is read back is the word's, and there is none where there is no word
unfoldable pub LabelReadBack : Type 0
LabelReadBack = (xs : List ℕ) → label_given (lookup_record label (records 0 (words_request xs))) (words_request xs)
    ≡ label_asked (words_from 0 xs) xs

-- so is the UUID
unfoldable pub UuidReadBack : Type 0
UuidReadBack = (xs : List ℕ) → uuid_given (lookup_record uuid (records 0 (words_request xs))) (words_request xs) ≡ uuid_asked (words_from 0 xs) xs
