-- The words, each ended by a zero byte: what each says, which of them is refused, and what stands for a key.
-- Assumes nothing.
use Rattle.std.specs.Prelude.{List, [], ◌∷◌, Bool, true, false, cond, ℕ, zero, suc, ◌+◌, ◌-◌, min, ltb, eqb, length}
use Rattle.endian.specs.Fields.{part}
use Rattle.text_pages.specs.Pages.{place_of_byte}
use Rattle.request_texts.specs.Texts.{packed_name}
use Rattle.request_words.specs.Values.{size_key, logical_key, physical_key, uuid_key, no_key, index_in, names, value_in, limited}
use Rattle.request_texts.specs.declared.Value.{Value}
use Rattle.request_words.specs.declared.Word.{Word}
use Rattle.request_words.specs.declared.Verdict.{Verdict}

-- ---- one word

-- what is wrong with a word beside its text: its name is no key's; its name stands again behind it; a word is missing
abbrev pub unknown_name : ℕ
unknown_name = 1

abbrev pub twice : ℕ
twice = 2

abbrev pub missing : ℕ
missing = 5

abbrev pub word : ℕ → ℕ → ℕ → ℕ → ℕ → ℕ → Word
word number key value from end next = record { number = number; key = key; value = value; from = from; end = end; next = next }

-- where nothing is said
abbrev pub no_word : Word
no_word = word unknown_name no_key 0 0 0 0

-- a value as a word
abbrev pub with_value : ℕ → Value → ℕ → ℕ → ℕ → Word
with_value key v from end next = word v.number key v.value from end next

-- a word with a key: its text's value; an unknown one where the key is no word's
unfoldable pub meant : ℕ → ℕ → ℕ → ℕ → List ℕ → Word
meant key from end next xs =
    cond (ltb key no_key) (with_value key (limited key (value_in key (part from (end - from) xs))) from end next)
    (word unknown_name no_key 0 from end next)

-- the word at an offset, from its end and the place of its `=`: the name before that, the text behind it
unfoldable pub word_by : ℕ → ℕ → ℕ → List ℕ → Word
word_by at end eq xs =
    cond (ltb eq end) (meant (index_in names (packed_name (part at (eq - at) xs))) (eq + 1) end (min (end + 1) (length xs)) xs)
    (word unknown_name no_key 0 at end (min (end + 1) (length xs)))

unfoldable pub word_at : ℕ → List ℕ → Word
word_at at xs = word_by at (place_of_byte 0 at xs) (place_of_byte 61 at xs) xs

-- ---- all words

abbrev pub word_then : Bool → Word → List Word → List Word
word_then true w ws = w ∷ ws
word_then false w ws = []

-- at most `n` words, from `at` on
unfoldable pub split_words : ℕ → ℕ → List ℕ → List Word
split_words zero at xs = []
split_words (suc n) at xs = word_then (ltb at (length xs)) (word_at at xs) (split_words n (word_at at xs).next xs)

-- the words from `at` on; each has a byte or more
unfoldable pub words_from : ℕ → List ℕ → List Word
words_from at xs = split_words (length xs - at) at xs

-- the first word with the key
unfoldable pub word_with : ℕ → List Word → Word
word_with key [] = no_word
word_with key (w ∷ ws) = cond (eqb w.key key) w (word_with key ws)

-- there is one
abbrev pub given : ℕ → List Word → Bool
given key ws = eqb (word_with key ws).key key

-- ---- which word is refused

-- what is wrong, the index of the word and its key; of a missing word the key alone
abbrev pub verdict : ℕ → ℕ → ℕ → Verdict
verdict number index key = record { number = number; index = index; key = key }

-- nothing is wrong
abbrev pub right : Verdict
right = verdict 0 0 0

-- the first of the words from index i on that is refused: by itself, or because its name stands again behind it
unfoldable pub judged : ℕ → List Word → Verdict
judged i [] = right
judged i (w ∷ ws) =
    cond (eqb w.number 0) (cond (given w.key ws) (verdict twice i w.key) (judged (i + 1) ws)) (verdict w.number i w.key)

-- Nobody guesses the device's size, its sectors and the UUID: the first that is missing, by its key.
unfoldable pub complete : List Word → Verdict
complete ws =
    cond (given size_key ws)
    (cond (given logical_key ws)
    (cond (given physical_key ws)
    (cond (given uuid_key ws) right (verdict missing 0 uuid_key))
    (verdict missing 0 physical_key))
    (verdict missing 0 logical_key))
    (verdict missing 0 size_key)

abbrev pub all_judged : Verdict → List Word → Verdict
all_judged v ws = cond (eqb v.number 0) (complete ws) v

-- number 0: the words are a request
unfoldable pub words_verdict : List ℕ → Verdict
words_verdict xs = all_judged (judged 0 (words_from 0 xs)) (words_from 0 xs)
