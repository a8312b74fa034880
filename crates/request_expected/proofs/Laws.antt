-- The lines of the two pages are what the keys' names and expectations say.
-- Assumes nothing.
use mathlib.Core.Path.{◌≡◌, refl}
use mathlib.Core.Bool.{true}
use mathlib.Core.List.{List}
use Prim.Native.Nat.{ℕ, min}
use lib.ListN.{length}
use Rattle.table_lines.specs.Lines.{PutLine}
use Rattle.text_pages.specs.Pages.{ascii_bytes, page, in_one_line, lines_each, line_at}
use Rattle.text_pages.proofs.Lines.{last_line}
use Rattle.request_expected.specs.Expected.{rows, any_word, keys_named, word_takes, name_of, expected, name_lines, expected_lines}

names-in-lines : lines_each name_lines ≡ true
unfolding name_lines rows keys_named lines_each in_one_line ascii_bytes
names-in-lines = refl

texts-in-lines : lines_each expected_lines ≡ true
unfolding expected_lines rows word_takes lines_each in_one_line ascii_bytes
texts-in-lines = refl

as-many-names : length (keys_named rows) ≡ 18
unfolding rows keys_named
as-many-names = refl

as-many-texts : length (word_takes rows) ≡ 18
unfolding rows word_takes
as-many-texts = refl

-- what is put for a line is put for its key
module _ {xs old left : List ℕ} {at number end : ℕ} (key n : ℕ) (e : n ≡ min key 18) where
  pub name-put : xs ≡ page name_lines → PutLine at (line_at n xs) old number end left → PutLine at (ascii_bytes (name_of key)) old number end left
  unfolding name_lines
  name-put is p = rw (← last_line "" (keys_named rows) key 18 as-many-names names-in-lines, ← is, ← e) p

  pub expected-put : xs ≡ page expected_lines → PutLine at (line_at n xs) old number end left → PutLine at (ascii_bytes (expected key)) old number end left
  unfolding expected_lines
  expected-put is p = rw (← last_line any_word (word_takes rows) key 18 as-many-texts texts-in-lines, ← is, ← e) p
