-- A number's sentence is its line of the page.
-- Assumes nothing.
use mathlib.Core.Path.{◌≡◌, refl, ap, ◌∙◌}
use mathlib.Core.Bool.{true}
use mathlib.Core.List.{List, [], ◌∷◌}
use mathlib.Core.Logic.{◌⊎◌, inl, inr}
use Prim.Native.Nat.{ℕ, zero, suc, ◌-◌, ◌≤◌, ◌<◌}
use native.Mathlib.Omega.{arith}
use lib.ListN.{length, get_or, drop}
use borrow.Author.Tests.{eq-eqb, ne_eqb}
use Rattle.seqs.proofs.Laws.{lt-or-le}
use Rattle.table_lines.specs.Lines.{PutLine}
use Rattle.text_pages.specs.Pages.{ascii_bytes, page, in_one_line, lines_each, line_at, text_at}
use Rattle.text_pages.proofs.Lines.{page-line, text-past}
use Rattle.refusal_sentences.specs.Sentences.{Row, ◌says◌, sentences, unknown_number, sentence_in, sentence, texts_of, texts}
use Rattle.refusal_sentences.proofs.Page.{numbers_of, counted, each-once, no-sentence}

-- the row of n, where the rows' numbers follow each other from k on
row_of : (rows : List Row) (j k n : ℕ) → numbers_of rows ≡ counted j k → k ≤ n → sentence_in rows n ≡ text_at unknown_number (n - k) (texts_of rows)
unfolding sentence_in texts_of text_at
row_of [] j k n e h = refl
row_of ((m says text) ∷ rows) zero k n e h = absurd (let l = ap length e in omega (arith, l))
row_of ((m says text) ∷ rows) (suc j) k n e h = by (lt-or-le k n) (row_of rows j (suc k) n (ap (drop 1) e))
  where
    here : m ≡ k
    here = ap (λ (ns : List ℕ). get_or ns 0 0) e

    by : (k < n) ⊎ (n ≤ k) → (k < n → sentence_in rows n ≡ text_at unknown_number (n - suc k) (texts_of rows))
        → sentence_in ((m says text) ∷ rows) n ≡ text_at unknown_number (n - k) (text ∷ texts_of rows)
    by (inl l) ih =
        let d : n - k ≡ suc (n - suc k) = omega arith in
        rw (ne_eqb n m (λ f. omega (arith, f, here)), d) (ih l)
    by (inr l) ih =
        let d : n - k ≡ 0 = omega arith in
        rw (eq-eqb n m (omega (arith, here)), d) refl

-- THE SENTENCE OF n IS LINE n
of-line : (n : ℕ) → sentence n ≡ text_at unknown_number n texts
unfolding texts text_at
of-line zero = no-sentence
of-line (suc n) = row_of sentences 43 1 (suc n) each-once (omega arith) ∙ ap (λ (k : ℕ). text_at unknown_number k (texts_of sentences)) (let e : suc n - 1 ≡ n = omega arith in e)

in_lines : lines_each texts ≡ true
unfolding texts sentences texts_of lines_each in_one_line ascii_bytes
in_lines = refl

as_many : length texts ≡ 44
unfolding texts sentences texts_of
as_many = refl

-- what is put for a line is put for its number
module _ {xs old left : List ℕ} {at number end : ℕ} (is : xs ≡ page texts) where
  pub line-put : (n : ℕ) → n ≤ 43 → PutLine at (line_at n xs) old number end left → PutLine at (ascii_bytes (sentence n)) old number end left
  line-put n h p =
      let l : n < length texts = (let m = as_many in omega (arith, m)) in
      rw (of-line n, ← page-line unknown_number texts n in_lines l, ← is) p

  pub no-line-put : (n : ℕ) → 43 < n → PutLine at (line_at 0 xs) old number end left → PutLine at (ascii_bytes (sentence n)) old number end left
  no-line-put n h p =
      let l : length texts ≤ n = (let m = as_many in omega (arith, m)) in
      rw (of-line n, text-past unknown_number texts n l, ← no-sentence) (line-put 0 (omega arith) p)
