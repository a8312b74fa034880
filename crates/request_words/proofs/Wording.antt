-- Laws of the words: one word, those behind it, and each turn of a loop over them.
-- Assumes nothing.
use mathlib.Core.Path.{◌≡◌, refl, sym, ap, ◌∙◌}
use mathlib.Core.Bool.{Bool, true, false}
use mathlib.Core.List.{List, [], ◌∷◌}
use Prim.Native.Nat.{ℕ, zero, suc, ◌+◌, ◌-◌, ◌≤◌, ◌<◌, min}
use native.Mathlib.Omega.{arith}
use lib.Dec.{ltb, eqb}
use lib.ListN.{length, drop}
use Rattle.endian.specs.Fields.{part}
use borrow.Author.Tests.{lt-ltb, le-ltb, eq-eqb, ne_eqb, ltb-true}
use Rattle.seqs.specs.Lists.{first_index}
use Rattle.seqs.proofs.Laws.{choose-elim}
use Rattle.request_texts.specs.declared.Value.{Value}
use Rattle.request_words.specs.declared.Word.{Word}
use Rattle.request_words.specs.declared.Verdict.{Verdict}
use Rattle.request_texts.specs.Texts.{packed_name}
use Rattle.text_pages.specs.Pages.{place_of_byte}
use Rattle.request_words.specs.Values.{size_key, logical_key, physical_key, uuid_key, no_key, index_in, names, value_in, limited}
use Rattle.request_words.specs.Words.{unknown_name, twice, missing, word, no_word, with_value, meant, word_by, word_at, word_then, split_words, words_from, word_with, given, verdict, right, judged, complete, words_verdict}

-- ---- one word
module _ (key from end next : ℕ) (xs : List ℕ) where
  pub meant-known : key < no_key → (v : Value) → v ≡ limited key (value_in key (part from (end - from) xs)) → with_value key v from end next ≡ meant key from end next xs
  unfolding meant
  meant-known h v e = rw (lt-ltb key no_key h, e)

  pub meant-unknown : no_key ≤ key → word unknown_name no_key 0 from end next ≡ meant key from end next xs
  unfolding meant
  meant-unknown h = rw (le-ltb key no_key h)

  meant-next : (meant key from end next xs).next ≡ next
  unfolding meant
  meant-next = choose-elim (λ (w : Word). w.next ≡ next) (ltb key no_key) _ _ (λ e. refl) (λ e. refl)

module _ (at : ℕ) (xs : List ℕ) (h : at < length xs) where
  next-by : (end eq : ℕ) → (word_by at end eq xs).next ≡ min (end + 1) (length xs)
  unfolding word_by
  next-by end eq =
      choose-elim (λ (w : Word). w.next ≡ min (end + 1) (length xs)) (ltb eq end) _ _
      (λ e. meant-next (index_in names (packed_name (part at (eq - at) xs))) (eq + 1) end (min (end + 1) (length xs)) xs) (λ e. refl)

  pub word-ends : (at < (word_at at xs).next) × ((word_at at xs).next ≤ length xs)
  unfolding word_at place_of_byte
  word-ends =
      let e = next-by (at + first_index (λ c. eqb c 0) (drop at xs)) (at + first_index (λ c. eqb c 61) (drop at xs)) in
      (omega arith, omega arith)

  module _ (w : Word) where
    pub answered : w ≡ word_at at xs → (w ≡ word_at at xs) × (at < w.next) × (w.next ≤ length xs)
    answered e = let d = word-ends in (e, rw e d.0, rw e d.1)

module _ (at : ℕ) (xs : List ℕ) (end eq next : ℕ) (e : end ≡ place_of_byte 0 at xs) (q : eq ≡ place_of_byte 61 at xs) (n : next ≡ min (end + 1) (length xs)) where
  pub word-named : eq < end → (key : ℕ) → key ≡ index_in names (packed_name (part at (eq - at) xs)) → meant key (eq + 1) end next xs ≡ word_at at xs
  unfolding word_at word_by
  word-named h key k = rw (← e, ← q, lt-ltb eq end h, ← k, ← n)

  pub word-unnamed : end ≤ eq → word unknown_name no_key 0 at end next ≡ word_at at xs
  unfolding word_at word_by
  word-unnamed h = rw (← e, ← q, le-ltb eq end h, ← n)

-- ---- the words from an offset on
same_more : (t : Bool) (w : Word) (ws vs : List Word) → (t ≡ true → ws ≡ vs) → word_then t w ws ≡ word_then t w vs
same_more true w ws vs f = ap (λ (l : List Word). w ∷ l) (f refl)
same_more false w ws vs f = refl

module _ (xs : List ℕ) where
  split-end : (n at : ℕ) → length xs ≤ at → split_words n at xs ≡ []
  unfolding split_words
  split-end zero at h = refl
  split-end (suc n) at h = rw (le-ltb at (length xs) h) refl

  -- as many turns as bytes are left are enough
  enough : (n m at : ℕ) → length xs - at ≤ n → length xs - at ≤ m → split_words n at xs ≡ split_words m at xs
  unfolding split_words
  enough zero m at h k = sym (split-end m at (omega arith))
  enough (suc n) zero at h k = split-end (suc n) at (omega arith)
  enough (suc n) (suc m) at h k =
      same_more (ltb at (length xs)) (word_at at xs) (split_words n (word_at at xs).next xs) (split_words m (word_at at xs).next xs)
      (λ e. let d = word-ends at xs (ltb-true at (length xs) e) in enough n m (word_at at xs).next (omega arith) (omega arith))

  pub words-end : (at : ℕ) → length xs ≤ at → words_from at xs ≡ []
  unfolding words_from
  words-end at h = split-end (length xs - at) at h

  pub words_more : (at : ℕ) → at < length xs → words_from at xs ≡ word_at at xs ∷ words_from (word_at at xs).next xs
  unfolding words_from split_words
  words_more at h =
      let d = word-ends at xs h in
      let e : length xs - at ≡ suc (length xs - suc at) = omega arith in
      ap (λ (n : ℕ). split_words n at xs) e
      ∙ rw (lt-ltb at (length xs) h) (ap (λ (ws : List Word). word_at at xs ∷ ws) (enough (length xs - suc at) (length xs - (word_at at xs).next) (word_at at xs).next (omega arith) (omega arith)))

-- ---- a turn of each loop: `w` is the word at `at`
module _ (at : ℕ) (xs : List ℕ) (w : Word) (here : w ≡ word_at at xs) (h : at < length xs) where
  this : words_from at xs ≡ w ∷ words_from w.next xs
  this = rw here (words_more xs at h)

  module _ (key : ℕ) where
    pub lookup-here : w.key ≡ key → word_with key (words_from at xs) ≡ w
    unfolding word_with
    lookup-here e = rw (this, eq-eqb w.key key e) refl

    pub lookup-later : (w.key ≡ key → ⊥) → word_with key (words_from at xs) ≡ word_with key (words_from w.next xs)
    unfolding word_with
    lookup-later ne = rw (this, ne_eqb w.key key ne) refl

  module _ (i : ℕ) where
    pub judged-wrong : (w.number ≡ 0 → ⊥) → judged i (words_from at xs) ≡ verdict w.number i w.key
    unfolding judged
    judged-wrong ne = rw (this, ne_eqb w.number 0 ne) refl

    module _ (again : Word) (found : again ≡ word_with w.key (words_from w.next xs)) (z : w.number ≡ 0) where
      pub judged-twice : again.key ≡ w.key → judged i (words_from at xs) ≡ verdict twice i w.key
      unfolding judged
      judged-twice e = rw (this, eq-eqb w.number 0 z, ← found, eq-eqb again.key w.key e) refl

      pub judged-later : (again.key ≡ w.key → ⊥) → judged i (words_from at xs) ≡ judged (i + 1) (words_from w.next xs)
      unfolding judged
      judged-later ne = rw (this, eq-eqb w.number 0 z, ← found, ne_eqb again.key w.key ne) refl

pub lookup-end : (key at : ℕ) (xs : List ℕ) → length xs ≤ at → word_with key (words_from at xs) ≡ no_word
unfolding word_with
lookup-end key at xs h = rw (words-end xs at h) refl

pub judged-end : (i at : ℕ) (xs : List ℕ) → length xs ≤ at → judged i (words_from at xs) ≡ right
unfolding judged
judged-end i at xs h = rw (words-end xs at h) refl

-- ---- the verdict
module _ (xs : List ℕ) (v : Verdict) (by : v ≡ judged 0 (words_from 0 xs)) where
  pub verdict-wrong : (v.number ≡ 0 → ⊥) → v ≡ words_verdict xs
  unfolding words_verdict
  verdict-wrong ne = rw (← by, ne_eqb v.number 0 ne)

  pub verdict-good : v.number ≡ 0 → complete (words_from 0 xs) ≡ words_verdict xs
  unfolding words_verdict
  verdict-good z = rw (← by, eq-eqb v.number 0 z)

module _ (ws : List Word) where
  pub without-size : given size_key ws ≡ false → verdict missing 0 size_key ≡ complete ws
  unfolding complete
  without-size e = rw e

  module _ (a : given size_key ws ≡ true) where
    pub without-logical : given logical_key ws ≡ false → verdict missing 0 logical_key ≡ complete ws
    unfolding complete
    without-logical e = rw (a, e)

    module _ (b : given logical_key ws ≡ true) where
      pub without-physical : given physical_key ws ≡ false → verdict missing 0 physical_key ≡ complete ws
      unfolding complete
      without-physical e = rw (a, b, e)

      module _ (c : given physical_key ws ≡ true) where
        pub without-uuid : given uuid_key ws ≡ false → verdict missing 0 uuid_key ≡ complete ws
        unfolding complete
        without-uuid e = rw (a, b, c, e)

        pub with_all : given uuid_key ws ≡ true → right ≡ complete ws
        unfolding complete
        with_all e = rw (a, b, c, e)
