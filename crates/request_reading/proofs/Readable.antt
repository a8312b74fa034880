-- The records that words ask for, as pieces: all are known, and none has the key of a later one.
-- Assumes nothing.
use Rattle.std.specs.Prelude.{Option, Some, None}
use mathlib.Core.Path.{◌≡◌, refl, sym, ap, ◌∙◌}
use mathlib.Core.Bool.{Bool, true, false, ◌&&◌, ◌||◌, cond}
use mathlib.Core.List.{List, [], ◌∷◌, ◌++◌, append_assoc, append-nil}
use Prim.Native.Nat.{ℕ, zero, suc, ◌+◌, ◌-◌, ◌^◌, ◌≤◌, ◌<◌}
use native.Mathlib.Omega.{arith}
use lib.Dec.{eqb}
use lib.ListN.{length, get_or, replicate, length-append, length-take}
use borrow.Author.Tests.{lt-ltb, le-ltb, eq-eqb, ne_eqb, eqb-true}
use mathlib.Core.Logic.{◌⊎◌, inl, inr}
use Rattle.seqs.proofs.Laws.{lt-or-le}
use Rattle.endian.specs.Bytes.{be_bytes, be_at}
use Rattle.request.specs.Cases.{dv, op, lb, id}
use Rattle.request.specs.Options.{label_given, uuid_given}
use Rattle.params.specs.Params.{no_label}
use Rattle.request_input.specs.Records.{option_bits, option_fits, record_known, value_with as lookup_record, sound, starts_with_device, records, well_formed}
use Rattle.request_words.specs.Values.{label_key, size_key, logical_key, physical_key, uuid_key, codes, largest_values}
use Rattle.request_words.specs.Words.{word_with, given, words_from}
use Rattle.request_words.specs.Asked.{pairs, device_record, option_record, option_records, label_word_text, label_record, uuid_record, words_request}
use Rattle.request_words.proofs.Writing.{found-small, length_pairs}
use Rattle.request_reading.proofs.Pieces.{field_at, Piece, Reads, All, joined, entries, records-are, device-piece, option-piece, label-piece, uuid-piece, device-reads, option-reads, label-reads, uuid-reads, label-there, uuid-there}
use Rattle.request_reading.specs.Reading.{Readable, option_asked, OptionsReadBack, DeviceReadBack, label_asked, uuid_asked, LabelReadBack, UuidReadBack}

-- ---- pieces that are known, each key once
abbrev Fresh : ℕ → List Piece → Type 0
Fresh key [] = Unit {0}
Fresh key (p ∷ ps) = (p.key ≡ key → ⊥) × Fresh key ps

abbrev Good : List Piece → Type 0
Good [] = Unit {0}
Good (p ∷ ps) = ((at : ℕ) → record_known p.key (p.value at) ≡ true) × Fresh p.key ps × Good ps

fresh-lookup : (key at : ℕ) (ps : List Piece) → Fresh key ps → lookup_record key (entries at ps) ≡ None
unfolding lookup_record entries
fresh-lookup key at [] f = refl
fresh-lookup key at (p ∷ ps) f = rw (ne_eqb key p.key (λ e. f.0 (sym e))) (fresh-lookup key (at + length p.bytes) ps f.1)

good-sound : (at : ℕ) (ps : List Piece) → Good ps → sound (entries at ps) ≡ true
unfolding sound entries
good-sound at [] g = refl
good-sound at (p ∷ ps) g = rw (g.0 at, fresh-lookup p.key (at + length p.bytes) ps g.1) (good-sound (at + length p.bytes) ps g.2)

-- ---- a piece that is there or isn't
abbrev kept : Bool → Piece → List Piece → List Piece
kept b p ps = cond b (p ∷ ps) ps

kept-joined : (b : Bool) (p : Piece) (ps : List Piece) → joined (kept b p ps) ≡ cond b p.bytes [] ++ joined ps
unfolding joined
kept-joined true p ps = refl
kept-joined false p ps = refl

kept-all : (b : Bool) (p : Piece) (ps : List Piece) → (b ≡ true → Reads p) → All ps → All (kept b p ps)
kept-all true p ps r a = (r refl, a)
kept-all false p ps r a = a

kept_fresh : (key : ℕ) (b : Bool) (p : Piece) (ps : List Piece) → (p.key ≡ key → ⊥) → Fresh key ps → Fresh key (kept b p ps)
kept_fresh key true p ps ne f = (ne, f)
kept_fresh key false p ps ne f = f

kept-good : (b : Bool) (p : Piece) (ps : List Piece) → (b ≡ true → (at : ℕ) → record_known p.key (p.value at) ≡ true) → Fresh p.key ps → Good ps → Good (kept b p ps)
kept-good true p ps k f g = (k refl, f, g)
kept-good false p ps k f g = g

-- ---- an option's record that is there or isn't, and one that is another's
here : (b : Bool) (c v at : ℕ) (ps : List Piece) → Fresh (3 + c) ps → lookup_record (3 + c) (entries at (kept b (option-piece c v) ps)) ≡ cond b (Some v) None
unfolding lookup_record entries
here true c v at ps f = rw (eq-eqb (3 + c) (3 + c) refl) refl
here false c v at ps f = fresh-lookup (3 + c) at ps f

skip : (b : Bool) (key c v at : ℕ) (ps : List Piece) (o : Option ℕ) → (3 + c ≡ key → ⊥) → ((at : ℕ) → lookup_record key (entries at ps) ≡ o)
    → lookup_record key (entries at (kept b (option-piece c v) ps)) ≡ o
unfolding lookup_record entries
skip true key c v at ps o ne f = rw (ne_eqb key (3 + c) (λ e. ne (sym e))) (f (at + length (op c v)))
skip false key c v at ps o ne f = f at

-- a record that is there or isn't is passed
pass : (b : Bool) (key c v at n : ℕ) (ps rest : List Piece) → (3 + c ≡ key → ⊥)
    → ((at : ℕ) → lookup_record key (entries at ps) ≡ lookup_record key (entries (at + n) rest))
    → lookup_record key (entries at (kept b (option-piece c v) ps)) ≡ lookup_record key (entries (at + (length (cond b (op c v) []) + n)) rest)
unfolding lookup_record entries
pass true key c v at n ps rest ne f =
    let e : at + length (op c v) + n ≡ at + (length (op c v) + n) = omega arith in
    rw (ne_eqb key (3 + c) (λ d. ne (sym d))) (f (at + length (op c v)) ∙ ap (λ (k : ℕ). lookup_record key (entries k rest)) e)
pass false key c v at n ps rest ne f = f at ∙ ap (λ (k : ℕ). lookup_record key (entries k rest)) (let e : at + n ≡ at + (0 + n) = omega arith in e)

-- ---- label and UUID, each there or not
module _ (b c : Bool) (text bytes : List ℕ) where
  both-names : List Piece
  both-names = kept b (label-piece text) (kept c (uuid-piece bytes) [])

  label-found : (at : ℕ) → lookup_record 1 (entries at both-names) ≡ cond b (Some (at + 2)) None
  unfolding both-names lookup_record entries
  label-found at = by b c
    where
      by : (b c : Bool) → lookup_record 1 (entries at (kept b (label-piece text) (kept c (uuid-piece bytes) []))) ≡ cond b (Some (at + 2)) None
      by true c = refl
      by false true = refl
      by false false = refl

  uuid-found : (at : ℕ) → lookup_record 2 (entries at both-names) ≡ cond c (Some (at + length (cond b (lb text) []) + 2)) None
  unfolding both-names lookup_record entries
  uuid-found at = by b c
    where
      by : (b c : Bool) → lookup_record 2 (entries at (kept b (label-piece text) (kept c (uuid-piece bytes) [])))
          ≡ cond c (Some (at + length (cond b (lb text) []) + 2)) None
      by true true = refl
      by true false = refl
      by false true = ap Some (let e : at + 2 ≡ at + 0 + 2 = omega arith in e)
      by false false = refl

-- ---- what stands where they are found
label-given : (b : Bool) (pre text post : List ℕ) → length text ≤ 12
    → label_given (cond b (Some (length pre + 2)) None) (pre ++ (cond b (lb text) [] ++ post))
    ≡ cond b (record { length = length text; bytes = text ++ replicate (12 - length text) 0 }) no_label
label-given true pre text post h = label-there pre text post h
label-given false pre text post h = refl

uuid-given : (b : Bool) (pre bytes post : List ℕ) → length bytes ≡ 16
    → uuid_given (cond b (Some (length pre + 2)) None) (pre ++ (cond b (id bytes) [] ++ post)) ≡ cond b (Some bytes) None
uuid-given true pre bytes post h = ap Some (uuid-there pre bytes post h)
uuid-given false pre bytes post h = refl

-- ---- numbers fit their options
fits-code : (code v : ℕ) → 1 ≤ code → code ≤ codes → v ≤ get_or largest_values code 0 → option_fits code v ≡ true
unfolding option_fits option_bits largest_values
fits-code zero v a b h = absurd (omega arith)
fits-code (suc zero) v a b h = lt-ltb v (2 ^ 64) (omega arith)
fits-code (suc (suc zero)) v a b h = lt-ltb v (2 ^ 32) (omega arith)
fits-code (suc (suc (suc zero))) v a b h = lt-ltb v (2 ^ 32) (omega arith)
fits-code (suc (suc (suc (suc zero)))) v a b h = lt-ltb v (2 ^ 32) (omega arith)
fits-code (suc (suc (suc (suc (suc zero))))) v a b h = lt-ltb v (2 ^ 64) (omega arith)
fits-code (suc (suc (suc (suc (suc (suc zero)))))) v a b h = lt-ltb v (2 ^ 64) (omega arith)
fits-code (suc (suc (suc (suc (suc (suc (suc zero))))))) v a b h = lt-ltb v (2 ^ 8) (omega arith)
fits-code (suc (suc (suc (suc (suc (suc (suc (suc zero)))))))) v a b h = lt-ltb v (2 ^ 64) (omega arith)
fits-code (suc (suc (suc (suc (suc (suc (suc (suc (suc zero))))))))) v a b h = lt-ltb v (2 ^ 7) (omega arith)
fits-code (suc (suc (suc (suc (suc (suc (suc (suc (suc (suc zero)))))))))) v a b h = lt-ltb v (2 ^ 64) (omega arith)
fits-code (suc (suc (suc (suc (suc (suc (suc (suc (suc (suc (suc zero))))))))))) v a b h = lt-ltb v (2 ^ 32) (omega arith)
fits-code (suc (suc (suc (suc (suc (suc (suc (suc (suc (suc (suc (suc zero)))))))))))) v a b h = lt-ltb v (2 ^ 1) (omega arith)
fits-code (suc (suc (suc (suc (suc (suc (suc (suc (suc (suc (suc (suc (suc zero))))))))))))) v a b h = lt-ltb v (2 ^ 1) (omega arith)
fits-code (suc (suc (suc (suc (suc (suc (suc (suc (suc (suc (suc (suc (suc (suc n)))))))))))))) v a b h = absurd (omega arith)

below_64 : (code v : ℕ) → code ≤ codes → v ≤ get_or largest_values code 0 → v < 2 ^ 64
unfolding largest_values
below_64 zero v b h = omega arith
below_64 (suc zero) v b h = omega arith
below_64 (suc (suc zero)) v b h = omega arith
below_64 (suc (suc (suc zero))) v b h = omega arith
below_64 (suc (suc (suc (suc zero)))) v b h = omega arith
below_64 (suc (suc (suc (suc (suc zero))))) v b h = omega arith
below_64 (suc (suc (suc (suc (suc (suc zero)))))) v b h = omega arith
below_64 (suc (suc (suc (suc (suc (suc (suc zero))))))) v b h = omega arith
below_64 (suc (suc (suc (suc (suc (suc (suc (suc zero)))))))) v b h = omega arith
below_64 (suc (suc (suc (suc (suc (suc (suc (suc (suc zero))))))))) v b h = omega arith
below_64 (suc (suc (suc (suc (suc (suc (suc (suc (suc (suc zero)))))))))) v b h = omega arith
below_64 (suc (suc (suc (suc (suc (suc (suc (suc (suc (suc (suc zero))))))))))) v b h = omega arith
below_64 (suc (suc (suc (suc (suc (suc (suc (suc (suc (suc (suc (suc zero)))))))))))) v b h = omega arith
below_64 (suc (suc (suc (suc (suc (suc (suc (suc (suc (suc (suc (suc (suc zero))))))))))))) v b h = omega arith
below_64 (suc (suc (suc (suc (suc (suc (suc (suc (suc (suc (suc (suc (suc (suc n)))))))))))))) v b h = absurd (omega arith)

-- ---- the words' pieces
module _ (xs : List ℕ) where
  value_of : ℕ → ℕ
  value_of code = (word_with code (words_from 0 xs)).value

  value-small : (code : ℕ) → given code (words_from 0 xs) ≡ true → value_of code ≤ get_or largest_values code 0
  unfolding value_of
  value-small code g = rw (eqb-true (word_with code (words_from 0 xs)).key code g) at (found-small xs code)

  option-pieces : ℕ → ℕ → List Piece → List Piece
  option-pieces zero code rest = rest
  option-pieces (suc n) code rest = kept (given code (words_from 0 xs)) (option-piece code (value_of code)) (option-pieces n (code + 1) rest)

  options-joined : (n code : ℕ) (rest : List Piece) → joined (option-pieces n code rest) ≡ option_records n code (words_from 0 xs) ++ joined rest
  unfolding option-pieces option_records option_record value_of
  options-joined zero code rest = refl
  options-joined (suc n) code rest =
      kept-joined (given code (words_from 0 xs)) (option-piece code (value_of code)) (option-pieces n (code + 1) rest)
      ∙ rw (options-joined n (code + 1) rest) (sym (append_assoc (option_record code (words_from 0 xs)) (option_records n (code + 1) (words_from 0 xs)) (joined rest)))

  options-all : (n code : ℕ) (rest : List Piece) → code + n ≤ codes + 1 → All rest → All (option-pieces n code rest)
  unfolding option-pieces
  options-all zero code rest h a = a
  options-all (suc n) code rest h a =
      kept-all (given code (words_from 0 xs)) (option-piece code (value_of code)) (option-pieces n (code + 1) rest)
      (λ g. option-reads code (value_of code) (below_64 code (value_of code) (omega arith) (value-small code g)))
      (options-all n (code + 1) rest (omega arith) a)

  options-fresh : (key n code : ℕ) (rest : List Piece) → key < 3 + code → Fresh key rest → Fresh key (option-pieces n code rest)
  unfolding option-pieces
  options-fresh key zero code rest h f = f
  options-fresh key (suc n) code rest h f =
      kept_fresh key (given code (words_from 0 xs)) (option-piece code (value_of code)) (option-pieces n (code + 1) rest)
      (λ e. omega arith) (options-fresh key n (code + 1) rest (omega arith) f)

  option-known : (code v : ℕ) → option_fits code v ≡ true → record_known (3 + code) v ≡ true
  option-known code v f =
      let e : 3 + code - 3 ≡ code = omega arith in
      rw (le-ltb (3 + code) 3 (omega arith), e, f)

  options-good : (n code : ℕ) (rest : List Piece) → 1 ≤ code → code + n ≤ codes + 1 → ((key : ℕ) → 3 ≤ key → Fresh key rest) → Good rest → Good (option-pieces n code rest)
  unfolding option-pieces
  options-good zero code rest b h f g = g
  options-good (suc n) code rest b h f g =
      kept-good (given code (words_from 0 xs)) (option-piece code (value_of code)) (option-pieces n (code + 1) rest)
      (λ t at. option-known code (value_of code) (fits-code code (value_of code) b (omega arith) (value-small code t)))
      (options-fresh (3 + code) n (code + 1) rest (omega arith) (f (3 + code) (omega arith)))
      (options-good n (code + 1) rest (omega arith) (omega arith) f g)

  uuid-text : List ℕ
  uuid-text = pairs 16 0 (word_with uuid_key (words_from 0 xs)).from xs

  label-flag : Bool
  label-flag = given label_key (words_from 0 xs)

  uuid-flag : Bool
  uuid-flag = eqb (word_with uuid_key (words_from 0 xs)).value 1

  names : List Piece
  names = kept label-flag (label-piece (label_word_text (word_with label_key (words_from 0 xs)) xs)) (kept uuid-flag (uuid-piece uuid-text) [])

  device : Piece
  device = device-piece (value_of size_key) (value_of logical_key) (value_of physical_key)

  pieces : List Piece
  pieces = device ∷ option-pieces codes 1 names

  names-joined : joined names ≡ label_record (words_from 0 xs) xs ++ uuid_record (words_from 0 xs) xs
  unfolding names label-flag uuid-flag uuid-text label_record uuid_record joined
  names-joined =
      kept-joined label-flag (label-piece (label_word_text (word_with label_key (words_from 0 xs)) xs)) (kept uuid-flag (uuid-piece uuid-text) [])
      ∙ ap (λ (l : List ℕ). label_record (words_from 0 xs) xs ++ l) (kept-joined uuid-flag (uuid-piece uuid-text) [] ∙ append-nil (uuid_record (words_from 0 xs) xs))

  all-joined : joined pieces ≡ words_request xs
  unfolding pieces device value_of words_request device_record joined
  all-joined = ap (λ (l : List ℕ). device_record (words_from 0 xs) ++ l) (options-joined codes 1 names ∙ ap (λ (l : List ℕ). option_records codes 1 (words_from 0 xs) ++ l) names-joined)

  names-all : All names
  unfolding names uuid-text
  names-all =
      kept-all label-flag (label-piece (label_word_text (word_with label_key (words_from 0 xs)) xs)) (kept uuid-flag (uuid-piece uuid-text) [])
      (λ e. label-reads (label_word_text (word_with label_key (words_from 0 xs)) xs))
      (kept-all uuid-flag (uuid-piece uuid-text) [] (λ e. uuid-reads uuid-text (length_pairs 16 0 (word_with uuid_key (words_from 0 xs)).from xs)) tt)

  names_fresh : (key : ℕ) → 3 ≤ key → Fresh key names
  unfolding names
  names_fresh key h =
      kept_fresh key label-flag (label-piece (label_word_text (word_with label_key (words_from 0 xs)) xs)) (kept uuid-flag (uuid-piece uuid-text) []) (λ e. omega arith)
      (kept_fresh key uuid-flag (uuid-piece uuid-text) [] (λ e. omega arith) tt)

  names-good : Good names
  unfolding names
  names-good =
      kept-good label-flag (label-piece (label_word_text (word_with label_key (words_from 0 xs)) xs)) (kept uuid-flag (uuid-piece uuid-text) []) (λ e at. refl)
      (kept_fresh 1 uuid-flag (uuid-piece uuid-text) [] (λ e. omega arith) tt)
      (kept-good uuid-flag (uuid-piece uuid-text) [] (λ e at. refl) tt tt)

  all_read : All pieces
  unfolding pieces device
  all_read = (device-reads (value_of size_key) (value_of logical_key) (value_of physical_key), options-all codes 1 names (omega arith) names-all)

  zero-fresh : Fresh 0 names
  unfolding names
  zero-fresh =
      kept_fresh 0 label-flag (label-piece (label_word_text (word_with label_key (words_from 0 xs)) xs)) (kept uuid-flag (uuid-piece uuid-text) []) (λ e. omega arith)
      (kept_fresh 0 uuid-flag (uuid-piece uuid-text) [] (λ e. omega arith) tt)

  all-good : Good pieces
  unfolding pieces device
  all-good = ((λ at. refl), options-fresh 0 codes 1 names (omega arith) zero-fresh, options-good codes 1 names (omega arith) (omega arith) names_fresh names-good)

  words-records : records 0 (words_request xs) ≡ entries 0 pieces
  words-records = rw (sym all-joined) (records-are [] pieces all_read)

  starts : starts_with_device (entries 0 pieces) ≡ true
  unfolding pieces device entries starts_with_device
  starts = refl

  asked : ℕ → Option ℕ
  asked k = cond (given k (words_from 0 xs)) (Some (value_of k)) None

  found_turn : (k n code : ℕ) (rest : List Piece) (at : ℕ) → code ≤ k → (code < k) ⊎ (k ≤ code)
      → (code < k → (at : ℕ) → lookup_record (3 + k) (entries at (option-pieces n (code + 1) rest)) ≡ asked k) → Fresh (3 + k) rest
      → lookup_record (3 + k) (entries at (option-pieces (suc n) code rest)) ≡ asked k
  unfolding option-pieces asked
  found_turn k n code rest at a (inl l) ih f =
      skip (given code (words_from 0 xs)) (3 + k) code (value_of code) at (option-pieces n (code + 1) rest) (asked k) (λ e. omega arith) (ih l)
  found_turn k n code rest at a (inr r) ih f =
      let e : k ≡ code = omega arith in
      rw e (here (given code (words_from 0 xs)) code (value_of code) at (option-pieces n (code + 1) rest) (options-fresh (3 + code) n (code + 1) rest (omega arith) (rw e at f)))

  options-found : (k n code : ℕ) (rest : List Piece) → code ≤ k → k < code + n → Fresh (3 + k) rest → (at : ℕ)
      → lookup_record (3 + k) (entries at (option-pieces n code rest)) ≡ asked k
  options-found k zero code rest a b f at = absurd (omega arith)
  options-found k (suc n) code rest a b f at =
      found_turn k n code rest at a (lt-or-le code k) (λ l. options-found k n (code + 1) rest (omega arith) (omega arith) f) f

  pieces-found : (k : ℕ) → 1 ≤ k → k ≤ codes → lookup_record (3 + k) (entries 0 pieces) ≡ asked k
  unfolding pieces device entries lookup_record
  pieces-found k a b =
      rw (ne_eqb (3 + k) 0 (λ e. omega arith))
      (options-found k codes 1 names a (omega arith) (names_fresh (3 + k) (omega arith)) (0 + length (device-piece (value_of size_key) (value_of logical_key) (value_of physical_key)).bytes))

  options-passed : (key n code : ℕ) (rest : List Piece) → key < 3 + code → (at : ℕ)
      → lookup_record key (entries at (option-pieces n code rest)) ≡ lookup_record key (entries (at + length (option_records n code (words_from 0 xs))) rest)
  unfolding option-pieces option_records option_record value_of
  options-passed key zero code rest h at = ap (λ (k : ℕ). lookup_record key (entries k rest)) (let e : at ≡ at + 0 = omega arith in e)
  options-passed key (suc n) code rest h at =
      pass (given code (words_from 0 xs)) key code (value_of code) at (length (option_records n (code + 1) (words_from 0 xs))) (option-pieces n (code + 1) rest) rest
      (λ e. omega arith) (options-passed key n (code + 1) rest (omega arith))
      ∙ ap (λ (k : ℕ). lookup_record key (entries (at + k) rest)) (sym (length-append (option_record code (words_from 0 xs)) (option_records n (code + 1) (words_from 0 xs))))

  -- what stands before label and UUID
  before : List ℕ
  before = device_record (words_from 0 xs) ++ option_records codes 1 (words_from 0 xs)

  behind : words_request xs ≡ before ++ (label_record (words_from 0 xs) xs ++ uuid_record (words_from 0 xs) xs)
  unfolding words_request before
  behind = sym (append_assoc (device_record (words_from 0 xs)) (option_records codes 1 (words_from 0 xs)) (label_record (words_from 0 xs) xs ++ uuid_record (words_from 0 xs) xs))

  names-found : (key : ℕ) → 1 ≤ key → key ≤ 2 → lookup_record key (records 0 (words_request xs)) ≡ lookup_record key (entries (length before) names)
  unfolding pieces device entries lookup_record before device_record value_of
  names-found key a b =
      let d = length (dv (value_of size_key) (value_of logical_key) (value_of physical_key)) in
      let o = length (option_records codes 1 (words_from 0 xs)) in
      let l : 0 + d + o ≡ length before = rw (length-append (dv (value_of size_key) (value_of logical_key) (value_of physical_key)) (option_records codes 1 (words_from 0 xs))) (omega arith) in
      rw (words-records, ne_eqb key 0 (λ e. omega arith))
      (options-passed key codes 1 names (omega arith) (0 + d) ∙ ap (λ (k : ℕ). lookup_record key (entries k names)) l)

  label-text : List ℕ
  label-text = label_word_text (word_with label_key (words_from 0 xs)) xs

  label-short : length label-text ≤ 12
  unfolding label-text
  label-short = simp length-take (omega arith)

  label-read : label_given (lookup_record 1 (records 0 (words_request xs))) (words_request xs) ≡ label_asked (words_from 0 xs) xs
  unfolding names label-flag uuid-flag uuid-text label-text label_record both-names
  label-read =
      rw (names-found 1 (omega arith) (omega arith), label-found label-flag uuid-flag label-text uuid-text (length before), behind)
      (label-given label-flag before label-text (uuid_record (words_from 0 xs) xs) label-short)

  uuid-read : uuid_given (lookup_record 2 (records 0 (words_request xs))) (words_request xs) ≡ uuid_asked (words_from 0 xs) xs
  unfolding names label-flag uuid-flag uuid-text label-text label_record uuid_record both-names
  uuid-read =
      let ws = words_from 0 xs in
      let pre = before ++ label_record ws xs in
      let l : length before + length (label_record ws xs) ≡ length pre = sym (length-append before (label_record ws xs)) in
      let w : words_request xs ≡ pre ++ (uuid_record ws xs ++ []) =
      behind ∙ sym (append_assoc before (label_record ws xs) (uuid_record ws xs)) ∙ ap (λ (u : List ℕ). pre ++ u) (sym (append-nil (uuid_record ws xs))) in
      ap (λ (o : Option ℕ). uuid_given o (words_request xs))
      (names-found 2 (omega arith) (omega arith) ∙ uuid-found label-flag uuid-flag label-text uuid-text (length before)
      ∙ ap (λ (k : ℕ). cond uuid-flag (Some (k + 2)) None) l)
      ∙ ap (uuid_given (cond uuid-flag (Some (length pre + 2)) None)) w
      ∙ uuid-given uuid-flag pre uuid-text [] (length_pairs 16 0 (word_with uuid_key ws).from xs)

  found-asked : (k : ℕ) → 1 ≤ k → k ≤ codes → lookup_record (3 + k) (records 0 (words_request xs)) ≡ option_asked k (words_from 0 xs)
  unfolding asked value_of
  found-asked k a b = rw words-records (pieces-found k a b)

  device-read : given size_key (words_from 0 xs) ≡ true → given logical_key (words_from 0 xs) ≡ true → given physical_key (words_from 0 xs) ≡ true
      → (be_at 8 2 (words_request xs) ≡ value_of size_key) × (be_at 4 10 (words_request xs) ≡ value_of logical_key) × (be_at 4 14 (words_request xs) ≡ value_of physical_key)
  unfolding words_request device_record dv be_bytes value_of largest_values
  device-read a b c =
      let ws = words_from 0 xs in
      let size = (word_with size_key ws).value in
      let logical = (word_with logical_key ws).value in
      let physical = (word_with physical_key ws).value in
      let rest = option_records codes 1 ws ++ (label_record ws xs ++ uuid_record ws xs) in
      let h = value-small size_key a in
      let i = value-small logical_key b in
      let j = value-small physical_key c in (
        field_at 8 size 2 [] (68 ∷ 86 ∷ []) (be_bytes 4 logical ++ (be_bytes 4 physical ++ rest)) refl (omega arith),
        field_at 4 logical 10 [] (68 ∷ 86 ∷ be_bytes 8 size) (be_bytes 4 physical ++ rest) refl (omega arith),
        field_at 4 physical 14 [] (68 ∷ 86 ∷ (be_bytes 8 size ++ be_bytes 4 logical)) rest refl (omega arith),
      )

pub device-read-back : DeviceReadBack
unfolding DeviceReadBack value_of
device-read-back xs a b c = device-read xs a b c

pub options-read-back : OptionsReadBack
unfolding OptionsReadBack
options-read-back xs code a b = found-asked xs code a b

pub readable : Readable
unfolding Readable well_formed
readable xs = rw (words-records xs, starts xs, good-sound 0 (pieces xs) (all-good xs))

pub label-read-back : LabelReadBack
unfolding LabelReadBack
label-read-back xs = label-read xs

pub uuid-read-back : UuidReadBack
unfolding UuidReadBack
uuid-read-back xs = uuid-read xs
