-- What Holds of the values that are looked up in a well-formed input: they fit their types, and lie inside.
-- Assumes nothing.
use Rattle.std.specs.Prelude.{Option, Some, None, is_some}
use mathlib.Core.Path.{◌≡◌, refl}
use mathlib.Core.Bool.{Bool, true, false, not, ◌&&◌}
use mathlib.Core.List.{List, [], ◌∷◌}
use Prim.Native.Nat.{ℕ, zero, suc, ◌+◌, ◌-◌, ◌^◌, ◌≤◌, ◌<◌}
use native.Mathlib.Omega.{arith}
use lib.Dec.{ltb, eqb}
use lib.ListN.{length, get_or}
use borrow.Author.Tests.{eqb-true, ltb-true, le-ltb}
use Rattle.request_input.specs.declared.Record.{Record}
use Rattle.request_input.specs.Records.{device, label, uuid, option, option_bits, option_fits, record_known, record_then, record_at, split_records, records, value_if_found, value_with, sound, starts_with_device, well_formed}
use Rattle.request.specs.Options.{Holds, OptBelow, LabelInside, UuidInside}
use Rattle.request_input.proofs.Marks.{Inside, record-inside, first-inside}
use Rattle.request_input.proofs.Splitting.{records-more, records-end}

pub first : (a b : Bool) → a && b ≡ true → a ≡ true
first true b e = refl
first false b e = e

pub other : (a b : Bool) → a && b ≡ true → b ≡ true
other true b e = e
other false b e = cc

pub never : false ≡ true → ⊥
never e = let z : ◌≡◌ {A = ℕ} 0 1 = cc in omega arith

-- `Q` Holds of the key and the value of each record
abbrev pub Each : (ℕ → ℕ → Type 0) → List Record → Type 0
Each Q [] = Unit {0}
Each Q (r ∷ rs) = Q r.key r.value × Each Q rs

-- and so of what is looked up
pub lookup-each : (Q : ℕ → ℕ → Type 0) (key : ℕ) (rs : List Record) → Each Q rs → Holds (Q key) (value_with key rs)
unfolding value_with
lookup-each Q key [] a = tt
lookup-each Q key (r ∷ rs) a = go (eqb key r.key) refl (lookup-each Q key rs a.1)
  where
    go : (t : Bool) → eqb key r.key ≡ t → Holds (Q key) (value_with key rs) → Holds (Q key) (value_if_found t r.value (value_with key rs))
    go true e rest = rw (eqb-true key r.key e) a.0
    go false e rest = rest

pub sound-each : (rs : List Record) → sound rs ≡ true → Each (λ (key value : ℕ). record_known key value ≡ true) rs
unfolding sound
sound-each [] e = tt
sound-each (r ∷ rs) e =
    (first (record_known r.key r.value) _ e, sound-each rs (other (not (is_some (value_with r.key rs))) (sound rs) (other (record_known r.key r.value) _ e)))

weaken : (P Q : ℕ → Type 0) (o : Option ℕ) → ((n : ℕ) → P n → Q n) → Holds P o → Holds Q o
weaken P Q None f h = tt
weaken P Q (Some n) f h = f n h

known-fits : (code n : ℕ) → record_known (3 + code) n ≡ true → n < 2 ^ get_or option_bits code 0
unfolding option_fits
known-fits code n e =
    let s : 3 + code - 3 ≡ code = omega arith in
    ltb-true n (2 ^ get_or option_bits code 0) (other (ltb 0 (get_or option_bits code 0)) _ (rw (le-ltb (3 + code) 3 (let g : 3 ≤ 3 + code = omega arith in g), s) at e))

inside-split : (n at : ℕ) (xs : List ℕ) → Each (Inside xs) (split_records n at xs)
unfolding split_records
inside-split zero at xs = tt
inside-split (suc n) at xs = go (ltb at (length xs)) (inside-split n (record_at at xs).next xs)
  where
    go : (t : Bool) → Each (Inside xs) (split_records n (record_at at xs).next xs) → Each (Inside xs) (record_then t (record_at at xs) (split_records n (record_at at xs).next xs))
    go true rest = (record-inside at xs, rest)
    go false rest = tt

module _ (xs : List ℕ) (well : well_formed xs ≡ true) where
  -- an option's number fits its type
  pub option-fits : (code : ℕ) → OptBelow (2 ^ get_or option_bits code 0) (value_with (option code) (records 0 xs))
  unfolding well_formed
  option-fits code =
      weaken (λ (n : ℕ). record_known (option code) n ≡ true) (λ (n : ℕ). n < 2 ^ get_or option_bits code 0) (value_with (option code) (records 0 xs)) (known-fits code)
      (lookup-each (λ (key value : ℕ). record_known key value ≡ true) (option code) (records 0 xs) (sound-each (records 0 xs) (other (starts_with_device (records 0 xs)) _ well)))

  pub short-fits : (code : ℕ) → get_or option_bits code 0 ≡ 32 → OptBelow 4294967296 (value_with (option code) (records 0 xs))
  short-fits code e = rw e at (option-fits code)

  pub byte_fits : (code : ℕ) → get_or option_bits code 0 ≡ 8 → OptBelow 256 (value_with (option code) (records 0 xs))
  byte_fits code e = rw e at (option-fits code)

  -- the device's record stands whole
  pub device-inside : 18 ≤ length xs
  unfolding well_formed starts_with_device
  device-inside = go (length xs) refl
    where
      go : (n : ℕ) → length xs ≡ n → 18 ≤ length xs
      go zero e = absurd (never (rw (records-end xs 0 (let g : length xs ≤ 0 = omega arith in g)) at well))
      go (suc n) e = first-inside xs (eqb-true (record_at 0 xs).key device (first _ _ (rw (records-more xs 0 (let g : 0 < length xs = omega arith in g)) at well)))

-- the bytes of a label and a UUID lie inside
module _ (xs : List ℕ) where
  pub label_inside : LabelInside xs (value_with label (records 0 xs))
  unfolding records
  label_inside =
      weaken (Inside xs label) (λ (p : ℕ). p + 1 + get_or xs p 0 ≤ length xs) (value_with label (split_records (length xs - 0) 0 xs)) (λ n h. h.0 refl)
      (lookup-each (Inside xs) label (split_records (length xs - 0) 0 xs) (inside-split (length xs - 0) 0 xs))

  pub uuid-inside : UuidInside xs (value_with uuid (records 0 xs))
  unfolding records
  uuid-inside =
      weaken (Inside xs uuid) (λ (p : ℕ). p + 16 ≤ length xs) (value_with uuid (split_records (length xs - 0) 0 xs)) (λ n h. h.1 refl)
      (lookup-each (Inside xs) uuid (split_records (length xs - 0) 0 xs) (inside-split (length xs - 0) 0 xs))
