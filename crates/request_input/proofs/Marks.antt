-- The record at an offset, by its mark.
-- Assumes nothing.
use mathlib.Core.Path.{◌≡◌, refl}
use mathlib.Core.Bool.{Bool, true, false, cond}
use mathlib.Core.List.{List}
use Prim.Native.Nat.{ℕ, ◌+◌, ◌≤◌, ◌<◌}
use native.Mathlib.Omega.{arith}
use lib.Dec.{leb, eqb}
use lib.ListN.{length, get_or}
use borrow.Author.Tests.{le-leb, lt-leb, eq-eqb, ne_eqb, leb-true}
use Rattle.endian.specs.Bytes.{be_at}
use Rattle.request_input.specs.declared.Record.{Record}
use Rattle.request_input.specs.Records.{device, label, uuid, option, entry, no_record, whole_record, record_at}

-- ---- a record of a known length
module _ (len key value next : ℕ) where
  pub cut : len < next → no_record len ≡ whole_record len key value next
  cut h = rw (lt-leb next len h) refl

  pub held : next ≤ len → entry key value next ≡ whole_record len key value next
  held h = rw (le-leb next len h) refl

-- an option's record, as it was read
pub option-held : (len b v next : ℕ) → next ≤ len → {c w : ℕ} → b ≡ c → v ≡ w → entry (3 + b) v next ≡ whole_record len (3 + c) w next
option-held len b v next h {c} {w} d e = rw (d, e) (held len (3 + c) w next h)

-- ---- what holds of every record
choose-all : (P : Record → Type 0) (b : Bool) (r s : Record) → (b ≡ true → P r) → P s → P (cond b r s)
choose-all P true r s f e = f refl
choose-all P false r s f e = e

-- `P` holds of a record at `at` if it holds of each kind of record that ends inside the input, and where there is none
module _ (P : Record → Type 0) (at : ℕ) (xs : List ℕ) (no : P (no_record (length xs))) where
  whole-all : (key value next : ℕ) → (next ≤ length xs → P (entry key value next)) → P (whole_record (length xs) key value next)
  whole-all key value next f = choose-all P (leb next (length xs)) (entry key value next) (no_record (length xs)) (λ t. f (leb-true next (length xs) t)) no

  pub record-all : (at + 18 ≤ length xs → P (entry device (at + 2) (at + 18)))
      → (at + 11 ≤ length xs → P (entry (option (get_or xs (at + 2) 0)) (be_at 8 (at + 3) xs) (at + 11)))
      → (at + 3 + get_or xs (at + 2) 0 ≤ length xs → P (entry label (at + 2) (at + 3 + get_or xs (at + 2) 0)))
      → (at + 18 ≤ length xs → P (entry uuid (at + 2) (at + 18))) → P (record_at at xs)
  unfolding record_at
  record-all dv op lb id =
      let m = be_at 2 at xs in
      choose-all P (leb (at + 3) (length xs)) _ _
      (λ t. choose-all P (eqb m 0x4456) _ _ (λ t. whole-all device (at + 2) (at + 18) dv)
      (choose-all P (eqb m 0x4f50) _ _ (λ t. whole-all (option (get_or xs (at + 2) 0)) (be_at 8 (at + 3) xs) (at + 11) op)
      (choose-all P (eqb m 0x4c42) _ _ (λ t. whole-all label (at + 2) (at + 3 + get_or xs (at + 2) 0) lb)
      (choose-all P (eqb m 0x4944) _ _ (λ t. whole-all uuid (at + 2) (at + 18) id) no)))) no

-- the next record begins behind this one, inside the input or at its end
abbrev Ends : ℕ → List ℕ → Record → Type 0
Ends at xs r = (at < r.next) × (r.next ≤ length xs)

pub record-ends : (at : ℕ) (xs : List ℕ) → at < length xs → Ends at xs (record_at at xs)
record-ends at xs h =
    record-all (Ends at xs) at xs (h, omega arith)
    (λ l. (omega arith, l)) (λ l. (omega arith, l)) (λ l. (omega arith, l)) (λ l. (omega arith, l))

-- the bytes of a label and of a UUID lie inside the input
abbrev pub Inside : List ℕ → ℕ → ℕ → Type 0
Inside xs key value = (key ≡ label → value + 1 + get_or xs value 0 ≤ length xs) × (key ≡ uuid → value + 16 ≤ length xs)

pub record-inside : (at : ℕ) (xs : List ℕ) → Inside xs (record_at at xs).key (record_at at xs).value
record-inside at xs =
    record-all (λ (r : Record). Inside xs r.key r.value) at xs ((λ e. omega arith), (λ e. omega arith))
    (λ l. ((λ e. omega arith), (λ e. omega arith))) (λ l. ((λ e. omega arith), (λ e. omega arith)))
    (λ l. ((λ e. omega arith), (λ e. omega arith))) (λ l. ((λ e. omega arith), (λ e. omega arith)))

-- the device's record at the start has 18 bytes
pub first-inside : (xs : List ℕ) → (record_at 0 xs).key ≡ device → 18 ≤ length xs
first-inside xs =
    record-all (λ (r : Record). r.key ≡ device → 18 ≤ length xs) 0 xs (λ e. omega arith)
    (λ l e. l) (λ l e. omega arith) (λ l e. omega arith) (λ l e. omega arith)

-- what `record_at` says of its answer
pub answered : (at : ℕ) (xs : List ℕ) (r : Record) → at < length xs → r ≡ record_at at xs → (r ≡ record_at at xs) × (at < r.next) × (r.next ≤ length xs)
answered at xs r h e = let d = record-ends at xs h in (e, rw e d.0, rw e d.1)

-- ---- by the mark
module _ (at : ℕ) (xs : List ℕ) where
  pub no_room : length xs < at + 3 → no_record (length xs) ≡ record_at at xs
  unfolding record_at
  no_room h = rw (lt-leb (at + 3) (length xs) h) refl

  module _ (m : ℕ) (room : at + 3 ≤ length xs) (mark : m ≡ be_at 2 at xs) where
    pub device-at : m ≡ 0x4456 → whole_record (length xs) device (at + 2) (at + 18) ≡ record_at at xs
    unfolding record_at
    device-at e = rw (le-leb (at + 3) (length xs) room, ← mark, eq-eqb m 0x4456 e) refl

    pub option-at : m ≡ 0x4f50 → whole_record (length xs) (option (get_or xs (at + 2) 0)) (be_at 8 (at + 3) xs) (at + 11) ≡ record_at at xs
    unfolding record_at
    option-at e = rw (le-leb (at + 3) (length xs) room, ← mark, e) refl

    pub label-at : (b : ℕ) → b ≡ get_or xs (at + 2) 0 → m ≡ 0x4c42 → whole_record (length xs) label (at + 2) (at + (3 + b)) ≡ record_at at xs
    unfolding record_at
    label-at b d e =
        let s : at + (3 + b) ≡ at + 3 + b = omega arith in
        rw (le-leb (at + 3) (length xs) room, ← mark, e, s, d) refl

    pub uuid-at : m ≡ 0x4944 → whole_record (length xs) uuid (at + 2) (at + 18) ≡ record_at at xs
    unfolding record_at
    uuid-at e = rw (le-leb (at + 3) (length xs) room, ← mark, e) refl

    pub none-at : (m ≡ 0x4456 → ⊥) → (m ≡ 0x4f50 → ⊥) → (m ≡ 0x4c42 → ⊥) → (m ≡ 0x4944 → ⊥) → no_record (length xs) ≡ record_at at xs
    unfolding record_at
    none-at a b c d = rw (le-leb (at + 3) (length xs) room, ← mark, ne_eqb m 0x4456 a, ne_eqb m 0x4f50 b, ne_eqb m 0x4c42 c, ne_eqb m 0x4944 d) refl
