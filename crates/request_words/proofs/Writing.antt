-- Laws of the written records: one record, those behind it, and what the words' places allow.
-- Assumes nothing.
use mathlib.Core.Path.{◌≡◌, refl, sym, ap, ◌∙◌}
use mathlib.Core.Bool.{Bool, true, false, ◌||◌}
use mathlib.Core.List.{List, [], ◌∷◌, ◌++◌}
use Prim.Native.Nat.{ℕ, zero, suc, ◌+◌, ◌-◌, ◌*◌, ◌/◌, ◌%◌, ◌^◌, ◌≤◌, ◌<◌, min}
use native.Mathlib.Nat.{add-zero}
use native.Mathlib.Omega.{arith}
use lib.Dec.{T, ltb, leb, eqb}
use lib.ListN.{length, get_or, drop, replicate, length-append, length-drop}
use lib.Seq.{length-take-le}
use borrow.Author.Tests.{le-leb, lt-leb, eq-eqb, ne_eqb, ltb-true, leb-true}
use Rattle.seqs.specs.Lists.{first_index}
use Rattle.seqs.proofs.Laws.{choose-elim, index-le}
use Rattle.endian.specs.Bytes.{be_bytes, patch}
use Rattle.endian.specs.Fields.{part, byte_run, write_fields, table}
use Rattle.endian.proofs.Laws.{patch-append, length-patch}
use Rattle.endian.proofs.Order.{trade}
use Rattle.request.specs.Cases.{dv, op, lb, id}
use Rattle.request_texts.specs.declared.Value.{Value}
use Rattle.request_words.specs.declared.Word.{Word}
use Rattle.request_words.specs.declared.Verdict.{Verdict}
use Rattle.request_texts.specs.Texts.{packed_name}
use Rattle.text_pages.specs.Pages.{place_of_byte}
use Rattle.request_words.specs.Values.{size_key, logical_key, physical_key, uuid_key, no_key, codes, index_in, names, largest_values, value_in, limited}
use Rattle.request_words.specs.Words.{no_word, meant, word_by, word_at, word_then, split_words, words_from, word_with, given, words_verdict}
use Rattle.request_words.specs.Asked.{pair_at, pairs, device_record, option_record, option_records, label_record, uuid_record, words_request, longest, made_as, Puts, Makes}

-- ---- bytes written behind others
or_right : (a b : Bool) → b ≡ true → T (a || b)
or_right true b e = tt
or_right false b e = rw e tt

pub patch-then : (o : ℕ) (ps bs xs : List ℕ) → patch (o + length ps) bs (patch o ps xs) ≡ patch o (ps ++ bs) xs
patch-then o ps bs xs =
    trade (byte_run (o + length ps) bs) (byte_run o ps) xs (or_right (leb (o + length ps + length bs) o) (leb (o + length ps) (o + length ps)) (le-leb (o + length ps) (o + length ps) (omega arith)))
    ∙ sym (patch-append o ps bs xs)

module _ (at : ℕ) (ps bs : List ℕ) (m n : ℕ) (old mid left : List ℕ) (e f : ℕ) where
  pub puts_then : Puts at ps m old e mid → Puts e bs n mid f left → Puts at (ps ++ bs) (m + n) old f left
  puts_then p q =
      let a = p.ends in let b = q.ends in let c = p.fits in let d = q.fits in
      record {
        ends = simp length-append (omega arith);
        fits = simp length-append (omega arith);
        left_is = q.left_is ∙ rw (p.left_is, p.ends) (patch-then at ps bs old);
      }

pub puts_none : (at most : ℕ) (old : List ℕ) → Puts at [] most old at old
unfolding patch
puts_none at most old = record { ends = sym (add-zero at); fits = omega arith; left_is = refl }

-- ---- what holds of every word holds of the one that is found
module _ (xs : List ℕ) (P : Word → Type 0) (no_word_lem : P no_word) (here : (at : ℕ) → at < length xs → P (word_at at xs)) where
  more-all : (key n at : ℕ) (t : Bool) → ltb at (length xs) ≡ t → P (word_with key (split_words n (word_at at xs).next xs))
      → P (word_with key (word_then t (word_at at xs) (split_words n (word_at at xs).next xs)))
  unfolding word_with
  more-all key n at true e i = choose-elim P (eqb (word_at at xs).key key) _ _ (λ f. here at (ltb-true at (length xs) e)) (λ f. i)
  more-all key n at false e i = no_word_lem

  split-all : (key n at : ℕ) → P (word_with key (split_words n at xs))
  unfolding split_words word_with
  split-all key zero at = no_word_lem
  split-all key (suc n) at = more-all key n at (ltb at (length xs)) refl (split-all key n (word_at at xs).next)

  pub lookup-all : (key at : ℕ) → P (word_with key (words_from at xs))
  unfolding words_from
  lookup-all key at = split-all key (length xs - at) at

-- ---- its value isn't larger than its key allows
abbrev Small : Word → Type 0
Small w = w.value ≤ get_or largest_values w.key 0

limited-small : (key : ℕ) (v : Value) → (limited key v).value ≤ get_or largest_values key 0
unfolding limited
limited-small key v = choose-elim (λ (w : Value). w.value ≤ get_or largest_values key 0) (leb v.value (get_or largest_values key 0)) _ _ (λ e. leb-true v.value (get_or largest_values key 0) e) (λ e. omega arith)

meant_small : (key from end next : ℕ) (xs : List ℕ) → Small (meant key from end next xs)
unfolding meant
meant_small key from end next xs =
    choose-elim Small (ltb key no_key) _ _ (λ e. limited-small key (value_in key (part from (end - from) xs))) (λ e. omega arith)

by-small : (at end eq : ℕ) (xs : List ℕ) → Small (word_by at end eq xs)
unfolding word_by
by-small at end eq xs =
    choose-elim Small (ltb eq end) _ _
    (λ e. meant_small (index_in names (packed_name (part at (eq - at) xs))) (eq + 1) end (min (end + 1) (length xs)) xs) (λ e. omega arith)

at_small : (xs : List ℕ) (at : ℕ) → Small (word_at at xs)
unfolding word_at
at_small xs at = by-small at (place_of_byte 0 at xs) (place_of_byte 61 at xs) xs

pub found-small : (xs : List ℕ) (key : ℕ) → (word_with key (words_from 0 xs)).value ≤ get_or largest_values (word_with key (words_from 0 xs)).key 0
found-small xs key = lookup-all xs Small (omega arith) (λ at h. at_small xs at) key 0

-- ---- where a word's text stands
abbrev Inside : List ℕ → Word → Type 0
Inside xs w = (w.from ≤ w.end) × (w.end ≤ length xs)

module _ (xs : List ℕ) where
  meant-inside : (key from end next : ℕ) → from ≤ end → end ≤ length xs → Inside xs (meant key from end next xs)
  unfolding meant
  meant-inside key from end next h k = choose-elim (Inside xs) (ltb key no_key) _ _ (λ e. (h, k)) (λ e. (h, k))

  by-inside : (at end eq : ℕ) → at ≤ end → end ≤ length xs → Inside xs (word_by at end eq xs)
  unfolding word_by
  by-inside at end eq h k =
      choose-elim (Inside xs) (ltb eq end) _ _
      (λ e. meant-inside (index_in names (packed_name (part at (eq - at) xs))) (eq + 1) end (min (end + 1) (length xs)) (let l = ltb-true eq end e in omega arith) k)
      (λ e. (h, k))

  at-inside : (at : ℕ) → at < length xs → Inside xs (word_at at xs)
  unfolding word_at place_of_byte
  at-inside at h =
      let l = index-le (λ c. eqb c 0) (drop at xs) in
      let d = length-drop at xs in
      by-inside at (at + first_index (λ c. eqb c 0) (drop at xs)) (at + first_index (λ c. eqb c 61) (drop at xs)) (omega arith) (omega arith)

  pub found_inside : (w : Word) (key at : ℕ) → w ≡ word_with key (words_from at xs) → (w.from ≤ w.end) × (w.end ≤ length xs)
  found_inside w key at e = let i = lookup-all xs (Inside xs) (omega arith, omega arith) at-inside key at in (rw e i.0, rw e i.1)

-- ---- the UUID's bytes
pub length_pairs : (n j from : ℕ) (xs : List ℕ) → length (pairs n j from xs) ≡ n
unfolding pairs
length_pairs zero j from xs = refl
length_pairs (suc n) j from xs = ap suc (length_pairs n (j + 1) from xs)

pub all-pairs : (n j from : ℕ) (xs bs : List ℕ) → length bs ≡ n → ((i : ℕ) → i < n → get_or bs i 0 ≡ pair_at from (j + i) xs) → bs ≡ pairs n j from xs
unfolding pairs
all-pairs zero j from xs [] l f = refl
all-pairs zero j from xs (b ∷ bs) l f = absurd (omega arith)
all-pairs (suc n) j from xs [] l f = absurd (omega arith)
all-pairs (suc n) j from xs (b ∷ bs) l f =
    let first : b ≡ pair_at from j xs = rw add-zero at (f 0 (omega arith)) in
    let rest = all-pairs n (j + 1) from xs bs (omega arith) (λ i h. let e : j + suc i ≡ j + 1 + i = omega arith in rw e at (f (suc i) (omega arith))) in
    rw (first, rest) refl

-- ---- each record
pub option-bytes : (code value : ℕ) → code < 256 → write_fields (table (0 ∷ 2 ∷ 2 ∷ 1 ∷ 3 ∷ 8 ∷ []) (0x4f50 ∷ code ∷ value ∷ [])) (replicate 11 0) ≡ op code value
unfolding op be_bytes patch
option-bytes code value h =
    let e : code / 256 ^ 0 % 256 ≡ code = omega arith in
    rw e refl

pub put-here : (at : ℕ) (bytes : List ℕ) (most : ℕ) (old left : List ℕ) (end : ℕ) → end ≡ at + length bytes → length bytes ≤ most → left ≡ patch at bytes old
    → Puts at bytes most old end left
put-here at bytes most old left end e f l = record { ends = e; fits = f; left_is = l }

module _ (code at : ℕ) (ws : List Word) (w : Word) (found : w ≡ word_with code ws) (old : List ℕ) where
  pub option-put : w.key ≡ code → (bs left : List ℕ) → bs ≡ op code w.value → left ≡ patch at bs old → Puts at (option_record code ws) 11 old (at + 11) left
  unfolding option_record op be_bytes
  option-put e bs left b l =
      rw (← found, eq-eqb w.key code e) (put-here at (op code w.value) 11 old left (at + 11) refl (omega arith) (l ∙ rw b refl))

  pub option-skip : (w.key ≡ code → ⊥) → Puts at (option_record code ws) 11 old at old
  unfolding option_record
  option-skip ne = rw (← found, ne_eqb w.key code ne) (puts_none at 11 old)

option-short : (code : ℕ) (ws : List Word) → length (option_record code ws) ≤ 11
unfolding option_record op be_bytes
option-short code ws = choose-elim (λ (l : List ℕ). length l ≤ 11) (given code ws) _ _ (λ e. omega arith) (λ e. omega arith)

pub options-short : (n code : ℕ) (ws : List Word) → length (option_records n code ws) ≤ 11 * n
unfolding option_records
options-short zero code ws = omega arith
options-short (suc n) code ws =
    let a = option-short code ws in
    let b = options-short n (code + 1) ws in
    simp length-append (omega arith)

-- a turn of the loop over the codes: `mid` has the record of this code
module _ (ws : List Word) (code end next : ℕ) (buf mid : List ℕ) (p : Puts end (option_record code ws) 11 buf next mid) (h : code ≤ codes) where
  turn-records : option_records (codes + 1 - code) code ws ≡ option_record code ws ++ option_records (codes + 1 - (code + 1)) (code + 1) ws
  unfolding option_records
  turn-records =
      let e : codes + 1 - code ≡ suc (codes + 1 - (code + 1)) = omega arith in
      rw e refl

  pub turn-left : patch end (option_records (codes + 1 - code) code ws) buf ≡ patch next (option_records (codes + 1 - (code + 1)) (code + 1) ws) mid
  turn-left = rw (turn-records, p.left_is, p.ends) (sym (patch-then end (option_record code ws) (option_records (codes + 1 - (code + 1)) (code + 1) ws) buf))

  pub turn_end : end + length (option_records (codes + 1 - code) code ws) ≡ next + length (option_records (codes + 1 - (code + 1)) (code + 1) ws)
  turn_end =
      let e = p.ends in
      let l = length-append (option_record code ws) (option_records (codes + 1 - (code + 1)) (code + 1) ws) in
      rw turn-records (omega arith)

  pub turn-room : next ≤ end + 11
  turn-room = let e = p.ends in let f = p.fits in omega arith

  pub turn-length : length mid ≡ length buf
  turn-length = rw p.left_is (length-patch end (option_record code ws) buf)

-- all codes are done
pub options-done : (ws : List Word) (code end : ℕ) (buf : List ℕ) → codes + 1 ≤ code → patch end (option_records (codes + 1 - code) code ws) buf ≡ buf
unfolding option_records patch
options-done ws code end buf h =
    let e : codes + 1 - code ≡ 0 = omega arith in
    rw e refl

pub options-ended : (ws : List Word) (code : ℕ) → codes + 1 ≤ code → length (option_records (codes + 1 - code) code ws) ≡ 0
unfolding option_records
options-ended ws code h =
    let e : codes + 1 - code ≡ 0 = omega arith in
    rw e refl

module _ (at : ℕ) (ws : List Word) (xs : List ℕ) (w : Word) (found : w ≡ word_with 0 ws) (old : List ℕ) where
  pub label-put : w.key ≡ 0 → (n : ℕ) → n ≡ min (w.end - w.from) 12 → w.from ≤ w.end → w.end ≤ length xs → (mid left : List ℕ)
      → mid ≡ patch at (76 ∷ 66 ∷ n ∷ []) old → left ≡ patch (at + 3) (part w.from (w.from + n - w.from) xs) mid → Puts at (label_record ws xs) 15 old (at + 3 + n) left
  unfolding label_record lb be_bytes
  label-put e n m f g mid left i l =
      let text = part w.from n xs in
      let d = length-drop w.from xs in
      let j : w.from + n - w.from ≡ n = omega arith in
      let k : length text ≡ n = length-take-le n (drop w.from xs) (omega arith) in
      rw (← found, eq-eqb w.key 0 e, ← m, k)
      (put-here at (76 ∷ 66 ∷ n ∷ text) 15 old left (at + 3 + n) (omega arith) (omega arith) (l ∙ rw (j, i) (patch-then at (76 ∷ 66 ∷ n ∷ []) text old)))

  pub label-skip : (w.key ≡ 0 → ⊥) → Puts at (label_record ws xs) 15 old at old
  unfolding label_record
  label-skip ne = rw (← found, ne_eqb w.key 0 ne) (puts_none at 15 old)

module _ (at : ℕ) (ws : List Word) (xs : List ℕ) (w : Word) (found : w ≡ word_with uuid_key ws) (old : List ℕ) where
  pub uuid-put : w.value ≡ 1 → (mid left : List ℕ) → mid ≡ patch at (73 ∷ 68 ∷ []) old → left ≡ patch (at + 2) (pairs 16 0 w.from xs) mid → Puts at (uuid_record ws xs) 18 old (at + 18) left
  unfolding uuid_record id be_bytes
  uuid-put e mid left i l =
      let bs = pairs 16 0 w.from xs in
      let k = length_pairs 16 0 w.from xs in
      rw (← found, eq-eqb w.value 1 e)
      (put-here at (73 ∷ 68 ∷ bs) 18 old left (at + 18) (omega arith) (omega arith) (l ∙ rw i (patch-then at (73 ∷ 68 ∷ []) bs old)))

  pub uuid-skip : (w.value ≡ 1 → ⊥) → Puts at (uuid_record ws xs) 18 old at old
  unfolding uuid_record
  uuid-skip ne = rw (← found, ne_eqb w.value 1 ne) (puts_none at 18 old)

pub device-put : (ws : List Word) (a b c : Word) → a ≡ word_with size_key ws → b ≡ word_with logical_key ws → c ≡ word_with physical_key ws → (bs old left : List ℕ) → bs ≡ dv a.value b.value c.value
    → left ≡ patch 0 bs old → left ≡ patch 0 (device_record ws) old
unfolding device_record
device-put ws a b c d e f bs old left g l = l ∙ rw (g, d, e, f) refl

pub device-puts : (ws : List Word) (old left : List ℕ) → left ≡ patch 0 (device_record ws) old → Puts 0 (device_record ws) 18 old 18 left
unfolding device_record dv be_bytes
device-puts ws old left l = record { ends = refl; fits = omega arith; left_is = l }

-- all records, one behind the other
pub records-put : (xs old a b c left : List ℕ) (e f g : ℕ) → a ≡ patch 0 (device_record (words_from 0 xs)) old → Puts 18 (option_records codes 1 (words_from 0 xs)) 143 a e b
    → Puts e (label_record (words_from 0 xs) xs) 15 b f c → Puts f (uuid_record (words_from 0 xs) xs) 18 c g left → (g ≡ length (words_request xs)) × (left ≡ patch 0 (words_request xs) old)
unfolding words_request
records-put xs old a b c left e f g d o l u =
    let ws = words_from 0 xs in
    let p = puts_then 0 (device_record ws) (option_records codes 1 ws ++ (label_record ws xs ++ uuid_record ws xs)) 18 176 old a left 18 g (device-puts ws old a d)
    (puts_then 18 (option_records codes 1 ws) (label_record ws xs ++ uuid_record ws xs) 143 33 a b left e g o
    (puts_then e (label_record ws xs) (uuid_record ws xs) 15 18 b c left f g l u)) in
    (let z = p.ends in omega arith, p.left_is)

-- ---- the answer
module _ (xs old : List ℕ) where
  pub makes-short : length old < longest → Makes xs old (made_as 27 0 0 0) old
  makes-short h = record { answer = rw (lt-leb longest (length old) h) refl; bytes = rw (lt-leb longest (length old) h) refl }

  module _ (h : longest ≤ length old) (v : Verdict) (by : v ≡ words_verdict xs) where
    pub makes-wrong : (v.number ≡ 0 → ⊥) → Makes xs old (made_as v.number v.index v.key 0) old
    makes-wrong ne =
        record { answer = rw (le-leb longest (length old) h, ← by, ne_eqb v.number 0 ne) refl; bytes = rw (le-leb longest (length old) h, ← by, ne_eqb v.number 0 ne) refl }

    pub makes-records : v.number ≡ 0 → (n : ℕ) → n ≡ length (words_request xs) → (left : List ℕ) → left ≡ patch 0 (words_request xs) old → Makes xs old (made_as 0 0 0 n) left
    makes-records z n e left l =
        record { answer = rw (le-leb longest (length old) h, ← by, eq-eqb v.number 0 z, e) refl; bytes = rw (le-leb longest (length old) h, ← by, eq-eqb v.number 0 z) l }
