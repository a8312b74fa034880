-- The input as records: one record and those behind it.
-- Assumes nothing.
use Rattle.std.specs.Prelude.{Some, None, is_some}
use mathlib.Core.Path.{◌≡◌, refl, sym, ap, ◌∙◌}
use mathlib.Core.Bool.{Bool, true, false}
use mathlib.Core.List.{List, [], ◌∷◌}
use Prim.Native.Nat.{ℕ, zero, suc, ◌-◌, ◌≤◌, ◌<◌}
use native.Mathlib.Omega.{arith}
use lib.Dec.{ltb}
use lib.ListN.{length}
use borrow.Author.Tests.{lt-ltb, le-ltb, eq-eqb, ne_eqb, ltb-true}
use Rattle.request_input.specs.declared.Record.{Record}
use Rattle.request_input.specs.Records.{record_known, record_then, record_at, split_records, records, value_with, sound, starts_with_device, well_formed}
use Rattle.request_input.proofs.Marks.{record-ends}

same_more : (t : Bool) (r : Record) (rs ss : List Record) → (t ≡ true → rs ≡ ss) → record_then t r rs ≡ record_then t r ss
same_more true r rs ss f = ap (λ (l : List Record). r ∷ l) (f refl)
same_more false r rs ss f = refl

module _ (xs : List ℕ) where
  split-end : (n at : ℕ) → length xs ≤ at → split_records n at xs ≡ []
  unfolding split_records
  split-end zero at h = refl
  split-end (suc n) at h = rw (le-ltb at (length xs) h) refl

  -- as many turns as bytes are left are enough
  enough : (n m at : ℕ) → length xs - at ≤ n → length xs - at ≤ m → split_records n at xs ≡ split_records m at xs
  unfolding split_records
  enough zero m at h k = sym (split-end m at (omega arith))
  enough (suc n) zero at h k = split-end (suc n) at (omega arith)
  enough (suc n) (suc m) at h k =
      same_more (ltb at (length xs)) (record_at at xs) (split_records n (record_at at xs).next xs) (split_records m (record_at at xs).next xs)
      (λ e. let d = record-ends at xs (ltb-true at (length xs) e) in enough n m (record_at at xs).next (omega arith) (omega arith))

  pub records-end : (at : ℕ) → length xs ≤ at → records at xs ≡ []
  unfolding records
  records-end at h = split-end (length xs - at) at h

  pub records-more : (at : ℕ) → at < length xs → records at xs ≡ record_at at xs ∷ records (record_at at xs).next xs
  unfolding records split_records
  records-more at h =
      let d = record-ends at xs h in
      let e : length xs - at ≡ suc (length xs - suc at) = omega arith in
      ap (λ (n : ℕ). split_records n at xs) e
      ∙ rw (lt-ltb at (length xs) h) (ap (λ (rs : List Record). record_at at xs ∷ rs) (enough (length xs - suc at) (length xs - (record_at at xs).next) (record_at at xs).next (omega arith) (omega arith)))

-- ---- a turn of each loop: `r` is the record at `at`
module _ (at : ℕ) (xs : List ℕ) (r : Record) (here : r ≡ record_at at xs) (h : at < length xs) where
  this : records at xs ≡ r ∷ records r.next xs
  this = rw here (records-more xs at h)

  module _ (key : ℕ) where
    pub lookup-here : r.key ≡ key → value_with key (records at xs) ≡ Some r.value
    unfolding value_with
    lookup-here e = rw (this, eq-eqb key r.key (sym e)) refl

    pub lookup-later : (r.key ≡ key → ⊥) → value_with key (records at xs) ≡ value_with key (records r.next xs)
    unfolding value_with
    lookup-later ne = rw (this, ne_eqb key r.key (λ e. ne (sym e))) refl

  pub sound-unknown : record_known r.key r.value ≡ false → sound (records at xs) ≡ false
  unfolding sound
  sound-unknown e = rw (this, e) refl

  pub sound-twice : record_known r.key r.value ≡ true → is_some (value_with r.key (records r.next xs)) ≡ true → sound (records at xs) ≡ false
  unfolding sound
  sound-twice e d = rw (this, e, d) refl

  pub sound-later : record_known r.key r.value ≡ true → is_some (value_with r.key (records r.next xs)) ≡ false → sound (records at xs) ≡ sound (records r.next xs)
  unfolding sound
  sound-later e d = rw (this, e, d) refl

pub lookup-end : (key at : ℕ) (xs : List ℕ) → length xs ≤ at → value_with key (records at xs) ≡ None
unfolding value_with
lookup-end key at xs h = rw (records-end xs at h) refl

pub sound-end : (at : ℕ) (xs : List ℕ) → length xs ≤ at → sound (records at xs) ≡ true
unfolding sound
sound-end at xs h = rw (records-end xs at h) refl

-- ---- the first record
pub empty-input : (xs : List ℕ) → length xs ≡ 0 → well_formed xs ≡ false
unfolding well_formed starts_with_device
empty-input xs e = rw (records-end xs 0 (omega arith)) refl

module _ (xs : List ℕ) (r : Record) (here : r ≡ record_at 0 xs) (h : 0 < length xs) where
  pub other-first : (r.key ≡ 0 → ⊥) → well_formed xs ≡ false
  unfolding well_formed starts_with_device
  other-first ne = rw (this 0 xs r here h, ne_eqb r.key 0 ne) refl

  pub device-first : r.key ≡ 0 → well_formed xs ≡ sound (records 0 xs)
  unfolding well_formed starts_with_device
  device-first e = rw (this 0 xs r here h, eq-eqb r.key 0 e) refl
