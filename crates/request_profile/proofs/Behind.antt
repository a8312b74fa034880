-- AN INPUT WITH CODE 13 PUT BEHIND IT ASKS FOR THE SAME: every other option and the device stay, and 1 puts it under the profile.
-- Assumes nothing.
use Rattle.std.specs.Prelude.{Option, Some, None, is_some}
use mathlib.Core.Path.{◌≡◌, refl, sym, ap, ◌∙◌}
use mathlib.Core.Bool.{Bool, true, false, not, ◌&&◌}
use mathlib.Core.List.{List, [], ◌∷◌, ◌++◌, append-nil}
use Prim.Native.Nat.{ℕ, ◌+◌, ◌^◌, ◌<◌, min}
use native.Mathlib.Omega.{arith}
use borrow.Author.Tests.{eq-eqb, ne_eqb, lt-ltb, eqb-false}
use lib.Dec.{eqb}
use lib.ListN.{length, get_or}
use Rattle.arith.proofs.Both.{both_true, left-true, right-true}
use Rattle.seqs.proofs.Laws.{never}
use Rattle.request_input.specs.declared.Record.{Record}
use Rattle.request_input.specs.Records.{label, uuid, option, option_bits, option_fits, record_known, entry, records, value_if_found, value_with, sound, starts_with_device, well_formed}
use Rattle.request.specs.Options.{LabelInside, UuidInside, label_at, label_given, uuid_given, turned_on, params_of, profile_of}
use Rattle.request.specs.Parse.{under, parse_def}
use Rattle.request.specs.Cases.{op}
use Rattle.request.proofs.Values.{sound-each, device-inside, label_inside, uuid-inside}
use Rattle.request_reading.proofs.Pieces.{joined, entries, option-piece, option-reads, records-are}
use Rattle.request_profile.proofs.Fronts.{get_d_front, at_front, part-front, records-front}

-- ---- one more record

module _ (s : Record) where
  not_last : (key : ℕ) (rs : List Record) → (key ≡ s.key → ⊥) → value_with key (rs ++ (s ∷ [])) ≡ value_with key rs
  unfolding value_with
  not_last key [] n = rw (ne_eqb key s.key n) refl
  not_last key (r ∷ rs) n = ap (value_if_found (eqb key r.key) r.value) (not_last key rs n)

  absent-first : (r : Record) (rs : List Record) → value_with s.key (r ∷ rs) ≡ None → (eqb s.key r.key ≡ false) × (value_with s.key rs ≡ None)
  unfolding value_with
  absent-first r rs e = go (eqb s.key r.key) refl e
    where
      go : (t : Bool) → eqb s.key r.key ≡ t → value_if_found t r.value (value_with s.key rs) ≡ None → (eqb s.key r.key ≡ false) × (value_with s.key rs ≡ None)
      go true d f = never (sym (ap is_some f))
      go false d f = (d, f)

  the_last : (rs : List Record) → value_with s.key rs ≡ None → value_with s.key (rs ++ (s ∷ [])) ≡ Some s.value
  unfolding value_with
  the_last [] e = rw (eq-eqb s.key s.key refl) refl
  the_last (r ∷ rs) e =
      let a = absent-first r rs e in
      rw a.0 (the_last rs a.1)

  still-sound : (rs : List Record) → record_known s.key s.value ≡ true → value_with s.key rs ≡ None → sound rs ≡ true → sound (rs ++ (s ∷ [])) ≡ true
  unfolding sound value_with
  still-sound [] k e h = rw k refl
  still-sound (r ∷ rs) k e h =
      let a = absent-first r rs e in
      let g = not (is_some (value_with r.key rs)) in
      let n = right-true (record_known r.key r.value) (g && sound rs) h in
      let d = not_last r.key rs (λ q. eqb-false s.key r.key a.0 (sym q)) in
      both_true (record_known r.key r.value) (not (is_some (value_with r.key (rs ++ (s ∷ [])))) && sound (rs ++ (s ∷ [])))
      (left-true (record_known r.key r.value) (g && sound rs) h)
      (both_true (not (is_some (value_with r.key (rs ++ (s ∷ []))))) (sound (rs ++ (s ∷ [])))
      (ap (λ (o : Option ℕ). not (is_some o)) d ∙ left-true g (sound rs) n)
      (still-sound rs k a.1 (right-true g (sound rs) n)))

still-first : (rs ss : List Record) → starts_with_device rs ≡ true → starts_with_device (rs ++ ss) ≡ true
unfolding starts_with_device
still-first [] ss e = never e
still-first (r ∷ rs) ss e = e

-- ---- label and UUID

label_same : (xs ys : List ℕ) (o : Option ℕ) → LabelInside xs o → label_given o (xs ++ ys) ≡ label_given o xs
unfolding label_at
label_same xs ys None h = refl
label_same xs ys (Some p) h =
    rw (get_d_front xs ys p (omega arith), part-front (p + 1) (min (get_or xs p 0) 12) xs ys (omega arith)) refl

uuid-same : (xs ys : List ℕ) (o : Option ℕ) → UuidInside xs o → uuid_given o (xs ++ ys) ≡ uuid_given o xs
uuid-same xs ys None h = refl
uuid-same xs ys (Some p) h = rw (part-front p 16 xs ys h) refl

-- ---- the input

module _ (xs : List ℕ) (well : well_formed xs ≡ true) (free : value_with (option 13) (records 0 xs) ≡ None) (v : ℕ) (bit : v < 2) where
  abbrev zs : List ℕ
  zs = xs ++ op 13 v

  abbrev last : Record
  last = entry (option 13) v (length xs + length (op 13 v))

  parts : (starts_with_device (records 0 xs) ≡ true) × (sound (records 0 xs) ≡ true)
  unfolding well_formed
  parts = (left-true (starts_with_device (records 0 xs)) (sound (records 0 xs)) well, right-true (starts_with_device (records 0 xs)) (sound (records 0 xs)) well)

  behind : records (length xs) zs ≡ last ∷ []
  unfolding joined entries
  behind =
      ap (λ (ys : List ℕ). records (length xs) (xs ++ ys)) (sym (append-nil (op 13 v)))
      ∙ records-are xs (option-piece 13 v ∷ []) (option-reads 13 v (omega arith), tt)

  all-records : records 0 zs ≡ records 0 xs ++ (last ∷ [])
  all-records = records-front xs (op 13 v) (sound-each (records 0 xs) parts.1) ∙ ap (λ (rs : List Record). records 0 xs ++ rs) behind

  fits-13 : record_known (option 13) v ≡ true
  unfolding option_fits option_bits
  fits-13 = rw (lt-ltb v (2 ^ 1) (omega arith)) refl

  well-behind : well_formed zs ≡ true
  unfolding well_formed
  well-behind =
      rw all-records
      (both_true (starts_with_device (records 0 xs ++ (last ∷ []))) (sound (records 0 xs ++ (last ∷ [])))
      (still-first (records 0 xs) (last ∷ []) parts.0)
      (still-sound last (records 0 xs) fits-13 free parts.1))

  same : (key : ℕ) → (key ≡ option 13 → ⊥) → value_with key (records 0 zs) ≡ value_with key (records 0 xs)
  same key n = ap (value_with key) all-records ∙ not_last last key (records 0 xs) n

  options-same : params_of zs ≡ params_of xs
  unfolding params_of
  options-same =
      rw (
        same (option 1) (λ e. omega (arith, e)),
        same (option 2) (λ e. omega (arith, e)),
        same (option 3) (λ e. omega (arith, e)),
        same (option 4) (λ e. omega (arith, e)),
        same (option 5) (λ e. omega (arith, e)),
        same (option 6) (λ e. omega (arith, e)),
        same (option 7) (λ e. omega (arith, e)),
        same (option 8) (λ e. omega (arith, e)),
        same (option 9) (λ e. omega (arith, e)),
        same (option 10) (λ e. omega (arith, e)),
        same (option 11) (λ e. omega (arith, e)),
        same (option 12) (λ e. omega (arith, e)),
        same label (λ e. omega (arith, e)),
        same uuid (λ e. omega (arith, e)),
        label_same xs (op 13 v) (value_with label (records 0 xs)) (label_inside xs),
        uuid-same xs (op 13 v) (value_with uuid (records 0 xs)) (uuid-inside xs),
      )
      refl

  turned : profile_of zs ≡ eqb v 1
  unfolding profile_of
  turned = ap turned_on (ap (value_with (option 13)) all-records ∙ the_last last (records 0 xs) free)

  -- EVERY OTHER OPTION AND THE DEVICE STAY
  pub code-behind : parse_def (xs ++ op 13 v) ≡ under (eqb v 1) (parse_def xs)
  unfolding parse_def
  code-behind =
      let h = device-inside xs well in
      rw (
        well-behind,
        well,
        options-same,
        turned,
        at_front 8 2 xs (op 13 v) (omega arith),
        at_front 4 10 xs (op 13 v) (omega arith),
        at_front 4 14 xs (op 13 v) (omega arith),
      )
      refl
