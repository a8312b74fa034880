-- The page: the numbers from 1 to 43, each once and in order; some of its sentences.
-- Assumes nothing.
use mathlib.Core.Path.{◌≡◌, refl}
use mathlib.Core.List.{List, [], ◌∷◌}
use Prim.Native.Nat.{ℕ, zero, suc}
use Rattle.text_pages.specs.Pages.{ascii_bytes}
use Rattle.refusal_sentences.specs.Sentences.{Row, ◌says◌, sentences, sentence_in, sentence}

-- the numbers of some rows
abbrev pub numbers_of : List Row → List ℕ
numbers_of [] = []
numbers_of ((n says text) ∷ rows) = n ∷ numbers_of rows

-- n numbers that follow each other, the first being k
abbrev pub counted : ℕ → ℕ → List ℕ
counted zero k = []
counted (suc n) k = k ∷ counted n (suc k)

-- EVERY NUMBER FROM 1 TO 43 HAS ONE SENTENCE
pub each-once : numbers_of sentences ≡ counted 43 1
unfolding sentences
each-once = refl

-- the first, one between and the last; 0, which accepts, has none
pub first-sentence : sentence 1 ≡ "inobtcount without finobt"
unfolding sentences sentence_in
first-sentence = refl

pub sentence-21 : sentence 21 ≡ "fewer than 300 MiB"
unfolding sentences sentence_in
sentence-21 = refl

pub last-sentence : sentence 43 ≡ "no such run is held"
unfolding sentences sentence_in
last-sentence = refl

pub no-sentence : sentence 0 ≡ "no such number"
unfolding sentences sentence_in
no-sentence = refl

-- `fewer`, byte for byte
pub bytes-of-fewer : ascii_bytes "fewer" ≡ 102 ∷ 101 ∷ 119 ∷ 101 ∷ 114 ∷ []
unfolding ascii_bytes
bytes-of-fewer = refl
