-- A list that begins as a run's does says the sector size that stands in the superblock of its fifth record.
-- Assumes nothing.
use mathlib.Core.Path.{◌≡◌, refl, sym, ap, ◌∙◌}
use mathlib.Core.Bool.{true}
use mathlib.Core.List.{List, ◌∷◌, ◌++◌, append_assoc}
use Prim.Native.Nat.{ℕ, ◌+◌, ◌^◌, ◌≤◌, ◌<◌}
use native.Mathlib.Omega.{arith}
use lib.ListN.{length, take, length-append}
use lib.Seq.{drop-append-add}
use borrow.Author.Tests.{eq-eqb}
use Rattle.list_read.specs.Records.{bytes_mark}
use Rattle.endian.specs.Bytes.{be_bytes, be_at}
use Rattle.endian.proofs.Fields.{at_part, at-written}
use Rattle.list_records.specs.Records.{Record, WZ, Wb, record_bytes, list_bytes}
use Rattle.list_sector.specs.Sector.{magic, begins_superblock, sector_in}
use Rattle.list_sector.proofs.Laws.{said, long-enough}

-- a number behind some bytes
behind-at : (n m k : ℕ) (pre post : List ℕ) → length pre ≡ m → be_at n (m + k) (pre ++ post) ≡ be_at n k post
behind-at n m k pre post e =
    ap (λ (o : ℕ). be_at n (o + k) (pre ++ post)) (sym e)
    ∙ at_part n (length pre + k) (pre ++ post) ∙ ap (λ (l : List ℕ). be_at n 0 (take n l)) (drop-append-add pre post k) ∙ sym (at_part n k post)

-- ---- a record of bytes, and what stands behind its head
module _ (o : ℕ) (bytes rest : List ℕ) where
  mark-first : be_at 2 0 (record_bytes (Wb o bytes) ++ rest) ≡ bytes_mark
  unfolding record_bytes be_at
  mark-first = refl

  length-here : length bytes < 2 ^ 64 → be_at 8 10 (record_bytes (Wb o bytes) ++ rest) ≡ length bytes
  unfolding record_bytes be_bytes
  length-here h = at-written 8 (length bytes) 10 (record_bytes (Wb o bytes) ++ rest) h refl

  offset-here : o < 2 ^ 64 → be_at 8 2 (record_bytes (Wb o bytes) ++ rest) ≡ o
  unfolding record_bytes be_bytes
  offset-here h = at-written 8 o 2 (record_bytes (Wb o bytes) ++ rest) h refl

  bytes-here : (n k : ℕ) → be_at n (18 + k) (record_bytes (Wb o bytes) ++ rest) ≡ be_at n k (bytes ++ rest)
  unfolding record_bytes be_bytes
  bytes-here n k = behind-at n 18 k (87 ∷ 66 ∷ (be_bytes 8 o ++ be_bytes 8 (length bytes))) (bytes ++ rest) refl

  record-length : length (record_bytes (Wb o bytes)) ≡ 18 + length bytes
  unfolding record_bytes be_bytes
  record-length = omega arith

zeros-length : (a b : ℕ) → length (record_bytes (WZ a b)) ≡ 18
unfolding record_bytes be_bytes
zeros-length a b = refl

-- ---- three records of zeros, a block and the superblock's block
module _ (pre log sb rest : List ℕ) (o : ℕ) (p : length pre ≡ 54) (short : length log ≤ 16384) (long : 104 ≤ length sb) where
  n : ℕ
  n = length log

  first : List ℕ
  first = record_bytes (Wb 0 sb) ++ rest

  all : List ℕ
  all = pre ++ (record_bytes (Wb o log) ++ first)

  before-first : length (pre ++ record_bytes (Wb o log)) ≡ 72 + n
  unfolding n
  before-first = length-append pre (record_bytes (Wb o log)) ∙ (let r = record-length o log rest in omega arith)

  in-first : (w k : ℕ) → be_at w (72 + n + k) all ≡ be_at w k first
  unfolding all
  in-first w k = ap (be_at w (72 + n + k)) (sym (append_assoc pre (record_bytes (Wb o log)) first)) ∙ behind-at w (72 + n) k (pre ++ record_bytes (Wb o log)) first before-first

  in-log : (w k : ℕ) → be_at w (54 + k) all ≡ be_at w k (record_bytes (Wb o log) ++ first)
  unfolding all
  in-log w k = behind-at w 54 k pre (record_bytes (Wb o log) ++ first) p

  long-list : 194 + n ≤ length all
  unfolding all first n
  long-list =
      let a = length-append pre (record_bytes (Wb o log) ++ (record_bytes (Wb 0 sb) ++ rest)) in
      let b = length-append (record_bytes (Wb o log)) (record_bytes (Wb 0 sb) ++ rest) in
      let c = length-append (record_bytes (Wb 0 sb)) rest in
      let d = record-length o log rest in
      let e = record-length 0 sb rest in
      omega arith

  block-said : n ≡ be_at 8 64 all
  unfolding n
  block-said = sym (in-log 8 10 ∙ length-here o log first (omega arith))

  is-first : be_at 4 0 (sb ++ rest) ≡ magic → begins_superblock n all ≡ true
  unfolding begins_superblock first
  is-first m =
      let a : be_at 2 54 all ≡ bytes_mark = in-log 2 0 ∙ mark-first o log first in
      let z : 72 + n + 0 ≡ 72 + n = omega arith in
      let b : be_at 2 (72 + n) all ≡ bytes_mark = ap (λ (k : ℕ). be_at 2 k all) (sym z) ∙ in-first 2 0 ∙ mark-first 0 sb rest in
      let y : 72 + n + 2 ≡ 74 + n = omega arith in
      let c : be_at 8 (74 + n) all ≡ 0 = ap (λ (k : ℕ). be_at 8 k all) (sym y) ∙ in-first 8 2 ∙ offset-here 0 sb rest (omega arith) in
      let x : 72 + n + (18 + 0) ≡ 90 + n = omega arith in
      let d : be_at 4 (90 + n) all ≡ magic = ap (λ (k : ℕ). be_at 4 k all) (sym x) ∙ in-first 4 (18 + 0) ∙ bytes-here 0 sb rest 4 0 ∙ m in
      rw (eq-eqb (be_at 2 54 all) bytes_mark a, eq-eqb (be_at 2 (72 + n) all) bytes_mark b, eq-eqb (be_at 8 (74 + n) all) 0 c, eq-eqb (be_at 4 (90 + n) all) magic d) refl

  sector-said : be_at 4 0 (sb ++ rest) ≡ magic → sector_in all ≡ be_at 2 102 (sb ++ rest)
  unfolding first n
  sector-said m =
      let l = long-list in
      let e : 72 + n + (18 + 102) ≡ 192 + n = omega arith in
      let v : be_at 2 102 (sb ++ rest) ≡ be_at 2 (192 + n) all = sym (ap (λ (k : ℕ). be_at 2 k all) (sym e) ∙ in-first 2 (18 + 102) ∙ bytes-here 0 sb rest 2 102) in
      let s : n ≤ 16384 = short in
      sym (long-enough all (omega arith) (be_at 2 102 (sb ++ rest)) n block-said (said n all s l (is-first m) (be_at 2 102 (sb ++ rest)) v))

-- THE SECTOR SIZE OF THE SUPERBLOCK THAT THE FIFTH RECORD BEGINS WITH
pub list-says : (a b c d e f o : ℕ) (log sb : List ℕ) (rs : List Record) → length log ≤ 16384 → 104 ≤ length sb → be_at 4 0 (sb ++ list_bytes rs) ≡ magic
    → sector_in (list_bytes (WZ a b ∷ WZ c d ∷ WZ e f ∷ Wb o log ∷ Wb 0 sb ∷ rs)) ≡ be_at 2 102 (sb ++ list_bytes rs)
unfolding list_bytes all first
list-says a b c d e f o log sb rs s l m =
    let x = record_bytes (WZ a b) in
    let y = record_bytes (WZ c d) in
    let z = record_bytes (WZ e f) in
    let t = record_bytes (Wb o log) ++ (record_bytes (Wb 0 sb) ++ list_bytes rs) in
    let p : length (x ++ (y ++ z)) ≡ 54 =
    length-append x (y ++ z) ∙ (let g = length-append y z in let h = zeros-length a b in let i = zeros-length c d in let j = zeros-length e f in omega arith) in
    ap sector_in (ap (λ (q : List ℕ). x ++ q) (sym (append_assoc y z t)) ∙ sym (append_assoc x (y ++ z) t))
    ∙ sector-said (x ++ (y ++ z)) log sb (list_bytes rs) o p s l m
