-- The rows are the words that `words_request` knows, in the order of their keys, and the text for an unknown word names each of them.
-- Assumes nothing.
use mathlib.Core.Path.{◌≡◌, refl}
use mathlib.Core.List.{List, [], ◌∷◌, ◌++◌}
use Prim.Native.Nat.{ℕ}
use Prim.Native.String.{String}
use Rattle.seqs.specs.Lists.{fold}
use Rattle.text_pages.specs.Pages.{ascii_bytes}
use Rattle.request_texts.specs.Texts.{letter, named, packed_name}
use Rattle.request_words.specs.Values.{names}
use Rattle.request_expected.specs.Expected.{rows, any_word, keys_named}

-- the names as numbers
abbrev packed_names : List String → List ℕ
packed_names [] = []
packed_names (s ∷ ss) = packed_name (ascii_bytes s) ∷ packed_names ss

-- THE NAMES ARE THOSE OF THE KEYS
pub each-key : packed_names (keys_named rows) ≡ names
unfolding rows keys_named names ascii_bytes packed_name named letter fold
each-key = refl

-- the names, each behind a space and with its `=`
abbrev listed : List String → List ℕ
listed [] = []
listed (s ∷ ss) = 32 ∷ (ascii_bytes s ++ (61 ∷ listed ss))

-- AN UNKNOWN WORD IS TOLD EVERY NAME
pub each-listed : ascii_bytes any_word ≡ ascii_bytes "one of device=" ++ listed (keys_named rows)
unfolding rows keys_named ascii_bytes
each-listed = refl
