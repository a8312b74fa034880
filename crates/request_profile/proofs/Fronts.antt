-- The records of an input with bytes behind it: those of the input, where they are all known, and then the others.
-- Assumes nothing.
use mathlib.Core.Path.{◌≡◌, refl, sym, ap, ap₂, subst, ◌∙◌}
use mathlib.Core.Bool.{Bool, true, false, cond}
use mathlib.Core.List.{List, [], ◌∷◌, ◌++◌}
use Prim.Native.Nat.{ℕ, zero, suc, ◌+◌, ◌-◌, ◌*◌, ◌^◌, ◌≤◌, ◌<◌}
use native.Mathlib.Omega.{arith}
use borrow.Author.Tests.{le-leb, leb-true, ltb-true, ltb-false}
use lib.Dec.{leb, ltb, eqb}
use lib.ListN.{length, get_or, take, drop, length-append, length-drop}
use lib.Seq.{take-append-le, drop-append-le}
use Rattle.seqs.proofs.Laws.{never}
use Rattle.endian.specs.Bytes.{be_at}
use Rattle.endian.specs.Fields.{part}
use Rattle.request_input.specs.declared.Record.{Record}
use Rattle.request_input.specs.Records.{device, label, uuid, option, option_bits, option_fits, record_known, no_record, whole_record, record_by_mark, record_at, records}
use Rattle.request_input.proofs.Marks.{record-ends}
use Rattle.request_input.proofs.Splitting.{records-end, records-more}
use Rattle.request.proofs.Values.{Each}

-- ---- bytes in front

pub get_d_front : (xs ys : List ℕ) (i : ℕ) → i < length xs → get_or (xs ++ ys) i 0 ≡ get_or xs i 0
get_d_front [] ys i h = absurd (omega arith)
get_d_front (x ∷ xs) ys zero h = refl
get_d_front (x ∷ xs) ys (suc i) h = get_d_front xs ys i (omega arith)

pub at_front : (n off : ℕ) (xs ys : List ℕ) → off + n ≤ length xs → be_at n off (xs ++ ys) ≡ be_at n off xs
unfolding be_at
at_front zero off xs ys h = refl
at_front (suc n) off xs ys h = ap₂ (λ (a b : ℕ). a * 256 ^ n + b) (get_d_front xs ys off (omega arith)) (at_front n (suc off) xs ys (omega arith))

pub part-front : (off n : ℕ) (xs ys : List ℕ) → off + n ≤ length xs → part off n (xs ++ ys) ≡ part off n xs
part-front off n xs ys h =
    let l = length-drop off xs in
    ap (take n) (drop-append-le off xs ys (omega arith)) ∙ take-append-le n (drop off xs) ys (omega arith)

-- ---- a record that is known

abbrev pub Known : Record → Type 0
Known r = record_known r.key r.value ≡ true

unknown : record_known (option 0) 0 ≡ false
unfolding option_fits option_bits
unknown = refl

no_record_lem : {X : Type 0} → record_known (option 0) 0 ≡ true → X
no_record_lem k = never (sym unknown ∙ k)

pick : (t : Bool) (a b c d : Record) → (Known a → b ≡ a) → (Known c → d ≡ c) → Known (cond t a c) → cond t b d ≡ cond t a c
pick true a b c d f g k = f k
pick false a b c d f g k = g k

module _ (at : ℕ) (xs ys : List ℕ) where
  abbrev zs : List ℕ
  zs = xs ++ ys

  longer : (n : ℕ) → n ≤ length xs → leb n (length (xs ++ ys)) ≡ true
  longer n h = let l = length-append xs ys in le-leb n (length (xs ++ ys)) (omega arith)

  whole_same : (key value next : ℕ) → Known (whole_record (length xs) key value next) → whole_record (length zs) key value next ≡ whole_record (length xs) key value next
  whole_same key value next = go (leb next (length xs)) refl
    where
      go : (t : Bool) → leb next (length xs) ≡ t → Known (cond t (record { key = key; value = value; next = next }) (no_record (length xs)))
          → whole_record (length zs) key value next ≡ cond t (record { key = key; value = value; next = next }) (no_record (length xs))
      go true e k = rw (longer next (leb-true next (length xs) e)) refl
      go false e k = no_record_lem k

  option-same : (c : ℕ) → Known (whole_record (length xs) (option c) (be_at 8 (at + 3) xs) (at + 11))
      → whole_record (length zs) (option c) (be_at 8 (at + 3) zs) (at + 11) ≡ whole_record (length xs) (option c) (be_at 8 (at + 3) xs) (at + 11)
  option-same c = go (leb (at + 11) (length xs)) refl
    where
      go : (t : Bool) → leb (at + 11) (length xs) ≡ t → Known (cond t (record { key = option c; value = be_at 8 (at + 3) xs; next = at + 11 }) (no_record (length xs)))
          → whole_record (length zs) (option c) (be_at 8 (at + 3) zs) (at + 11) ≡ cond t (record { key = option c; value = be_at 8 (at + 3) xs; next = at + 11 }) (no_record (length xs))
      go true e k = let h = leb-true (at + 11) (length xs) e in rw (longer (at + 11) h, at_front 8 (at + 3) xs ys (omega arith)) refl
      go false e k = no_record_lem k

  module _ (m : ℕ) (h : at + 3 ≤ length xs) where
    first : get_or zs (at + 2) 0 ≡ get_or xs (at + 2) 0
    first = get_d_front xs ys (at + 2) (omega arith)

    mark-same : Known (record_by_mark m at xs) → record_by_mark m at zs ≡ record_by_mark m at xs
    mark-same =
        pick (eqb m 0x4456) _ _ _ _ (whole_same device (at + 2) (at + 18))
        (pick (eqb m 0x4f50) _ _ _ _
        (λ k. ap (λ (c : ℕ). whole_record (length zs) (option c) (be_at 8 (at + 3) zs) (at + 11)) first ∙ option-same (get_or xs (at + 2) 0) k)
        (pick (eqb m 0x4c42) _ _ _ _
        (λ k. ap (λ (c : ℕ). whole_record (length zs) label (at + 2) (at + 3 + c)) first ∙ whole_same label (at + 2) (at + 3 + get_or xs (at + 2) 0) k)
        (pick (eqb m 0x4944) _ _ _ _ (whole_same uuid (at + 2) (at + 18)) (λ k. no_record_lem k))))

  record_same : Known (record_at at xs) → record_at at zs ≡ record_at at xs
  unfolding record_at
  record_same = go (leb (at + 3) (length xs)) refl
    where
      go : (t : Bool) → leb (at + 3) (length xs) ≡ t → Known (cond t (record_by_mark (be_at 2 at xs) at xs) (no_record (length xs)))
          → cond (leb (at + 3) (length zs)) (record_by_mark (be_at 2 at zs) at zs) (no_record (length zs)) ≡ cond t (record_by_mark (be_at 2 at xs) at xs) (no_record (length xs))
      go true e k =
          let h = leb-true (at + 3) (length xs) e in
          ap (λ (t : Bool). cond t (record_by_mark (be_at 2 at zs) at zs) (no_record (length zs))) (longer (at + 3) h)
          ∙ ap (λ (m : ℕ). record_by_mark m at zs) (at_front 2 at xs ys (omega arith))
          ∙ mark-same (be_at 2 at xs) h k
      go false e k = no_record_lem k

-- ---- all of them

module _ (xs ys : List ℕ) where
  abbrev AllKnown : List Record → Type 0
  AllKnown rs = Each (λ (key value : ℕ). record_known key value ≡ true) rs

  at-end : (at : ℕ) → at ≡ length xs → records at (xs ++ ys) ≡ records at xs ++ records (length xs) (xs ++ ys)
  at-end at e = ap (λ (k : ℕ). records k (xs ++ ys)) e ∙ ap (λ (rs : List Record). rs ++ records (length xs) (xs ++ ys)) (sym (records-end xs at (omega arith)))

  from : (n at : ℕ) → length xs - at ≤ n → at ≤ length xs → AllKnown (records at xs) → records at (xs ++ ys) ≡ records at xs ++ records (length xs) (xs ++ ys)
  from zero at h i a = at-end at (omega arith)
  from (suc n) at h i a = go (ltb at (length xs)) refl (λ k p q b. from n k p q b)
    where
      go : (t : Bool) → ltb at (length xs) ≡ t
          → ((k : ℕ) → length xs - k ≤ n → k ≤ length xs → AllKnown (records k xs) → records k (xs ++ ys) ≡ records k xs ++ records (length xs) (xs ++ ys))
          → records at (xs ++ ys) ≡ records at xs ++ records (length xs) (xs ++ ys)
      go false e f = at-end at (let g = ltb-false at (length xs) e in omega arith)
      go true e f =
          let l = ltb-true at (length xs) e in
          let r = record_at at xs in
          let k = subst AllKnown (records-more xs at l) a in
          let d = record-ends at xs l in
          let z = length-append xs ys in
          let s = record_same at xs ys k.0 in
          records-more (xs ++ ys) at (omega arith)
          ∙ ap (λ (q : Record). q ∷ records q.next (xs ++ ys)) s
          ∙ ap (λ (rs : List Record). r ∷ rs) (f r.next (omega arith) d.1 k.1)
          ∙ ap (λ (rs : List Record). rs ++ records (length xs) (xs ++ ys)) (sym (records-more xs at l))

  pub records-front : AllKnown (records 0 xs) → records 0 (xs ++ ys) ≡ records 0 xs ++ records (length xs) (xs ++ ys)
  records-front a = from (length xs) 0 (omega arith) (omega arith) a
