-- Records one after the other: one law over the record's type, for the loops that write them.
-- Assumes nothing.
use mathlib.Core.Path.{◌≡◌, ap, sym, ◌∙◌}
use mathlib.Core.List.{List, [], ◌∷◌, ◌++◌}
use Prim.Native.Nat.{ℕ, suc, ◌+◌, ◌*◌, ◌-◌, ◌/◌, ◌%◌, ◌≤◌, ◌<◌}
use mathlib.Core.Bool.{Bool, true, false}
use native.Mathlib.Nat.{mul-suc, mul-le-mul_left, add_comm, mul_comm, mul-zero, mul-div_cancel_left, mul-mod_right, div-add-mod', add-zero}
use native.Mathlib.Omega.{arith}
use lib.ListN.{length, replicate, take, drop, get_or, length-append, drop_of_length-le}
use lib.Seq.{drop-cons, get_or-take, length-take-le}
use lib.Dec.{eqb, leb, lit<}
use borrow.Author.Tests.{eqb-true, leb-true}
use Rattle.refusals.specs.Numbers.{too_many_records, wrong_length}
use Rattle.structs.proofs.Written.{passed}
use Rattle.endian.specs.Bytes.{be_bytes, patch}
use Rattle.endian.proofs.Laws.{patch-append}
use Rattle.endian.proofs.Fields.{write-length}
use Rattle.structs.proofs.Reading.{patch-whole}
use Rattle.btree.specs.declared.records.AllocRec.{AllocRec}
use Rattle.btree.specs.declared.records.InobtRec.{InobtRec}
use Rattle.btree.specs.declared.records.RmapRec.{RmapRec}
use Rattle.btree.specs.Records.{records_bytes, recs_number, alloc_fields, alloc_bytes, inobt_fields, inobt_bytes, rmap_fields, rmap_bytes}

-- ---- the number of a list
pub no-multiple : (size count len : ℕ) → 0 < size → (len / size ≡ count → ⊥) → len ≡ size * count → ⊥
no-multiple size count len p n e = n (rw e (mul-div_cancel_left count p))

pub no-multiple' : (size count len : ℕ) → (len % size ≡ 0 → ⊥) → len ≡ size * count → ⊥
no-multiple' size count len n e = n (rw e (mul-mod_right size count))

pub multiple : (size count len : ℕ) → len / size ≡ count → len % size ≡ 0 → len ≡ size * count
multiple size count len d m =
    sym (div-add-mod' len size) ∙ rw (d, m) (add-zero (count * size) ∙ mul_comm count size)

-- ---- a turn of the loop, which goes from the last record to the first
module _ {A : Type 0} (f : A → List ℕ) (n : ℕ) (size : (a : A) → length (f a) ≡ n) where
  pub length-listed : (rs : List A) → length (records_bytes f rs) ≡ n * length rs
  length-listed [] = sym (mul-zero n)
  length-listed (r ∷ rs) = length-append (f r) (records_bytes f rs) ∙ ap (λ (k : ℕ). length (f r) + k) (length-listed rs) ∙ ap (λ (k : ℕ). k + n * length rs) (size r)
      ∙ add_comm n (n * length rs) ∙ sym (mul-suc n (length rs))

  module _ (d : A) (recs : List A) (count : ℕ) (few : count ≤ length recs) where
    within : length (take count recs) ≡ count
    within = length-take-le count recs few

    pub record-turn : (i : ℕ) (xs ys zs : List ℕ) → 0 < i → i ≤ count → ys ≡ patch (n * i) (records_bytes f (drop i (take count recs))) xs
        → zs ≡ patch (n * (i - 1)) (f (get_or recs (i - 1) d)) ys → zs ≡ patch (n * (i - 1)) (records_bytes f (drop (i - 1) (take count recs))) xs
    record-turn i xs ys zs pos le e c =
        let r = get_or recs (i - 1) d in
        let rs = take count recs in
        let j : i ≡ suc (i - 1) = omega arith in
        let lt : i - 1 < count = omega arith in
        let m : n * i ≡ n * (i - 1) + length (f r) = ap (λ (k : ℕ). n * k) j ∙ mul-suc n (i - 1) ∙ ap (λ (k : ℕ). n * (i - 1) + k) (sym (size r)) in
        let h : drop (i - 1) rs ≡ r ∷ drop i rs =
        drop-cons rs (i - 1) d (rw within lt) ∙ ap (λ (x : A). x ∷ drop (suc (i - 1)) rs) (get_or-take count recs (i - 1) d lt) ∙ ap (λ (k : ℕ). r ∷ drop k rs) (sym j) in
        c ∙ ap (patch (n * (i - 1)) (f r)) (e ∙ ap (λ (k : ℕ). patch k (records_bytes f (drop i rs)) xs) m)
        ∙ sym (patch-append (n * (i - 1)) (f r) (records_bytes f (drop i rs)) xs)
        ∙ ap (λ (l : List A). patch (n * (i - 1)) (records_bytes f l) xs) (sym h)

    -- where the loop begins nothing is written, and where it ends everything is
    pub record-none : (xs : List ℕ) → xs ≡ patch (n * count) (records_bytes f (drop count (take count recs))) xs
    unfolding patch
    record-none xs = sym (ap (λ (l : List A). patch (n * count) (records_bytes f l) xs) (drop_of_length-le (take count recs) (let g : length (take count recs) ≤ count = omega (arith, within) in g)))

    pub record-all : (i : ℕ) (xs ys : List ℕ) → i ≤ 0 → length xs ≡ n * count → ys ≡ patch (n * i) (records_bytes f (drop i (take count recs))) xs
        → ys ≡ records_bytes f (take count recs)
    record-all i xs ys z l e =
        let o : i ≡ 0 = omega arith in
        e ∙ ap (λ (k : ℕ). patch (n * k) (records_bytes f (drop k (take count recs))) xs) o ∙ ap (λ (k : ℕ). patch k (records_bytes f (take count recs)) xs) (mul-zero n)
        ∙ patch-whole (records_bytes f (take count recs)) xs (length-listed (take count recs) ∙ ap (λ (k : ℕ). n * k) within ∙ sym l)

  pub fits-turn : (i count : ℕ) (xs ys : List ℕ) → 0 < i → i ≤ count → length xs ≡ n * count → length ys ≡ length xs → n * (i - 1) + n ≤ length ys
  fits-turn i count xs ys pos le l k =
      let s : n * (i - 1) + n ≡ n * suc (i - 1) = sym (mul-suc n (i - 1)) in
      rw (k, l, s) (mul-le-mul_left n (let q : suc (i - 1) ≤ count = omega arith in q))

-- ---- the bytes of each record
pub alloc-size : (r : AllocRec) → length (alloc_bytes r) ≡ 8
unfolding alloc_bytes
alloc-size r = write-length (alloc_fields r) (replicate 8 0)

pub inobt-size : (s : Bool) (r : InobtRec) → length (inobt_bytes s r) ≡ 16
unfolding inobt_bytes
inobt-size s r = write-length (inobt_fields s r) (replicate 16 0)

pub rmap-size : (r : RmapRec) → length (rmap_bytes r) ≡ 24
unfolding rmap_bytes
rmap-size r = write-length (rmap_fields r) (replicate 24 0)

-- in the order in which the code writes them: the last field first
module _ (o : ℕ) (xs : List ℕ) where
  pub alloc-put : (r : AllocRec) → patch o (be_bytes 4 r.start) (patch (o + 4) (be_bytes 4 r.count) xs) ≡ patch o (alloc_bytes r) xs
  unfolding alloc_bytes patch be_bytes
  alloc-put r = sym (patch-append o (be_bytes 4 r.start) (be_bytes 4 r.count) xs)

  pub full_put : (r : InobtRec) → patch o (be_bytes 4 r.startino) (patch (o + 4) (be_bytes 4 r.freecount) (patch (o + 8) (be_bytes 8 r.free) xs)) ≡ patch o (inobt_bytes false r) xs
  unfolding inobt_bytes patch be_bytes
  full_put r =
      sym (patch-append o (be_bytes 4 r.startino ++ be_bytes 4 r.freecount) (be_bytes 8 r.free) xs
      ∙ patch-append o (be_bytes 4 r.startino) (be_bytes 4 r.freecount) (patch (o + 8) (be_bytes 8 r.free) xs))

  pub sparse-put : (r : InobtRec) → patch o (be_bytes 4 r.startino) (patch (o + 4) (be_bytes 2 r.holemask) (patch (o + 6) (be_bytes 1 r.count)
      (patch (o + 7) (be_bytes 1 r.freecount) (patch (o + 8) (be_bytes 8 r.free) xs)))) ≡ patch o (inobt_bytes true r) xs
  unfolding inobt_bytes patch be_bytes
  sparse-put r =
      let a = be_bytes 4 r.startino in
      let b = be_bytes 2 r.holemask in
      let c = be_bytes 1 r.count in
      let d = be_bytes 1 r.freecount in
      let e = be_bytes 8 r.free in
      sym (patch-append o (a ++ (b ++ (c ++ d))) e xs
      ∙ patch-append o (a ++ (b ++ c)) d (patch (o + 8) e xs)
      ∙ patch-append o (a ++ b) c (patch (o + 7) d (patch (o + 8) e xs))
      ∙ patch-append o a b (patch (o + 6) c (patch (o + 7) d (patch (o + 8) e xs))))

  pub rmap-put : (r : RmapRec) → patch o (be_bytes 4 r.start) (patch (o + 4) (be_bytes 4 r.count) (patch (o + 8) (be_bytes 8 r.owner) (patch (o + 16) (be_bytes 8 0) xs))) ≡ patch o (rmap_bytes r) xs
  unfolding rmap_bytes patch be_bytes
  rmap-put r =
      let a = be_bytes 4 r.start in
      let b = be_bytes 4 r.count in
      let c = be_bytes 8 r.owner in
      let d = be_bytes 8 0 in
      sym (patch-append o (a ++ (b ++ c)) d xs
      ∙ patch-append o (a ++ b) c (patch (o + 16) d xs)
      ∙ patch-append o a b (patch (o + 8) c (patch (o + 16) d xs)))

-- ---- what an accepted list says, and the records that the code reads past no end
pub accepted : (size count len : ℕ) → recs_number size count len ≡ 0 → (len ≡ size * count) × (count ≤ 64)
unfolding recs_number
accepted size count len e =
    let a = passed wrong_length _ (eqb len (size * count)) (lit< tt) e in
    let b = passed too_many_records 0 (leb count 64) (lit< tt) a.1 in
    (eqb-true len (size * count) a.0, leb-true count 64 b.0)

abbrev pub no_alloc : AllocRec
no_alloc = record { start = 0; count = 0 }

abbrev pub no_inobt : InobtRec
no_inobt = record { startino = 0; holemask = 0; count = 0; freecount = 0; free = 0 }

abbrev pub no_rmap : RmapRec
no_rmap = record { start = 0; count = 0; owner = 0 }
