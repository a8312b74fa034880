-- The log's first block of a geometry: how long its record is, that the block is the record and zeros, and the number of a refused one.
-- Assumes nothing.
use mathlib.Core.Path.{◌≡◌, refl, sym, ap, ◌∙◌}
use mathlib.Core.Bool.{Bool, true, false}
use mathlib.Core.List.{List, ◌++◌}
use Prim.Native.Nat.{ℕ, ◌+◌, ◌*◌, ◌-◌, ◌≤◌, ◌^◌, max}
use native.Mathlib.Omega.{arith}
use borrow.Author.Tests.{eq-eqb, ne_eqb, eqb-true, le-leb}
use borrow.Rule.Slice.PartMut.{put_mid}
use lib.Dec.{leb, ltb, eqb}
use lib.ListN.{length, take, drop, replicate, length-replicate, replicate-append-replicate}
use lib.Seq.{drop_at}
use lib.Pow.{pow-add}
use Rattle.refusals.specs.Numbers.{wrong_length}
use Rattle.arith.specs.Choice.{when}
use Rattle.endian.specs.Answer.{Put}
use Rattle.endian.specs.Bytes.{patch, zeros}
use Rattle.endian.proofs.Laws.{part-back, patch-split, put_in}
use Rattle.endian.proofs.Fields.{write-length}
use Rattle.structs.specs.Written.{Written, require}
use Rattle.structs.proofs.Written.{passed, written_in}
use Rattle.structs.proofs.Reading.{patch-whole}
use Rattle.geometry.specs.declared.Geometry.{Geometry}
use Rattle.geometry_layout.specs.Bounds.{Bounds}
use Rattle.geometry_layout.specs.Places.{lsunit_bytes, logsunit_of}
use Rattle.plan_totals.specs.Totals.{plans_number}
use Rattle.log_record.specs.Record.{clear_sunit, rounded_up, basic_blocks_of, record_number, record_fields, log_record_bytes}
use Rattle.head_bytes.proofs.Lending.{part_length}
use Rattle.list_spec.specs.Listing.{log_unit, first_record, log_block}
use Rattle.group_bytes.specs.Answers.{log_refusal}
use Rattle.group_bytes.proofs.Accepted.{or-second, or-zero, size-least, size-most}

-- ---- the number

module _ (g : Geometry) (n : ℕ) where
  pub log-zero : log_refusal g n ≡ 0 → (plans_number g ≡ 0) × (n ≡ g.blocksize)
  unfolding log_refusal
  log-zero z =
      let o = or-zero (plans_number g) _ z in
      (o.0, eqb-true n g.blocksize (passed wrong_length 0 (eqb n g.blocksize) (omega arith) o.1).0)

  module _ (p : plans_number g ≡ 0) where
    pub other_block : (n ≡ g.blocksize → ⊥) → wrong_length ≡ log_refusal g n
    unfolding log_refusal
    other_block h = or-second (plans_number g) _ wrong_length p (rw (ne_eqb n g.blocksize h) refl)

    pub block-fits : n ≡ g.blocksize → 0 ≡ log_refusal g n
    unfolding log_refusal
    block-fits e = or-second (plans_number g) _ 0 p (rw (eq-eqb n g.blocksize e) refl)

-- ---- a record and its length

pub record-length : (uuid : List ℕ) (unit lsn tail : ℕ) → length (log_record_bytes uuid unit lsn tail) ≡ 512 * basic_blocks_of unit
unfolding log_record_bytes
record-length uuid unit lsn tail =
    write-length (record_fields uuid unit lsn tail) (replicate (512 * basic_blocks_of unit) 0) ∙ length-replicate {A = ℕ} (512 * basic_blocks_of unit) 0

-- what an accepted length is
accepted-length : (unit n : ℕ) → record_number unit n ≡ 0 → n ≡ 512 * basic_blocks_of unit
unfolding record_number
accepted-length unit n z = eqb-true n (512 * basic_blocks_of unit) (passed 27 (require 35 (leb unit 16384) 0) (eqb n (512 * basic_blocks_of unit)) (omega arith) z).0

-- ---- the unit: none, or a block

unit-at : (t : Bool) (bs sector : ℕ) → 1024 ≤ bs → clear_sunit (logsunit_of (when t bs 0)) (when t sector 0) ≡ when t bs 0
unfolding clear_sunit logsunit_of when
unit-at true bs sector h = rw (ne_eqb bs 0 (λ q. omega arith), ne_eqb bs 1 (λ q. omega arith)) refl
unit-at false bs sector h = refl

module _ (g : Geometry) (z : Bounds g) where
  abbrev large : Bool
  large = ltb 512 g.lsectsize

  unit-is : log_unit g ≡ when large g.blocksize 0
  unfolding log_unit lsunit_bytes
  unit-is =
      ap (λ (s : ℕ). clear_sunit (logsunit_of (when large g.blocksize 0)) (when (ltb 512 s) g.lsectsize 0)) (sym z.sizes.log-sector)
      ∙ unit-at large g.blocksize g.lsectsize (size-least g z)

  -- a block is two basic blocks or more
  basic : (m : ℕ) → m ≡ 2 ^ (g.blocklog - 9) → g.blocksize ≡ 512 * m
  basic m e =
      let k : g.blocklog ≡ 9 + (g.blocklog - 9) = let b = z.sizes.block-least in omega arith in
      z.sizes.block-power ∙ ap (λ (i : ℕ). 2 ^ i) k ∙ pow-add 2 9 (g.blocklog - 9) ∙ ap (λ (x : ℕ). 512 * x) (sym e)

  whole-at : (t : Bool) → (max 1024 (when t g.blocksize 0) ≡ 512 * basic_blocks_of (when t g.blocksize 0)) × (when t g.blocksize 0 ≤ g.blocksize)
  unfolding when basic_blocks_of rounded_up
  whole-at true =
      let m = 2 ^ (g.blocklog - 9) in
      let e : g.blocksize ≡ 512 * m = basic m refl in
      let l = size-least g z in
      (omega arith, omega arith)
  whole-at false = (omega arith, omega arith)

  pub record-whole : max 1024 (log_unit g) ≡ 512 * basic_blocks_of (log_unit g)
  record-whole = rw unit-is (whole-at large).0

  pub record-fits : max 1024 (log_unit g) ≤ g.blocksize
  record-fits = let h : log_unit g ≤ g.blocksize = rw unit-is (whole-at large).1 in let l = size-least g z in omega arith

  pub record-accepted : record_number (log_unit g) (max 1024 (log_unit g)) ≡ 0
  unfolding record_number
  record-accepted =
      let h = record-fits in
      let m = size-most g z in
      rw (eq-eqb (max 1024 (log_unit g)) (512 * basic_blocks_of (log_unit g)) record-whole, le-leb (log_unit g) 16384 (omega arith)) refl

-- ---- the block

-- the record in the first n bytes
pub record-back : {r : ℕ} (uuid : List ℕ) (unit n : ℕ) (xs ys : List ℕ) → n ≤ length xs → record_number unit n ≡ 0
    → Written (record_number unit (length (take (0 + n - 0) (drop 0 xs)))) (log_record_bytes uuid unit (2 ^ 32) (2 ^ 32)) (take (0 + n - 0) (drop 0 xs)) r ys
    → put_mid 0 (0 + n - 0) xs ys ≡ patch 0 (log_record_bytes uuid unit (2 ^ 32) (2 ^ 32)) xs
record-back uuid unit n xs ys h z w =
    let e = accepted-length unit n z in
    let q : 0 + n ≤ length xs = omega arith in
    let p = part_length 0 n xs q in
    let k : ys ≡ log_record_bytes uuid unit (2 ^ 32) (2 ^ 32) = written_in w (ap (record_number unit) p ∙ z) in
    part-back 0 n xs ys q (ap (λ (l : List ℕ). length l) k ∙ record-length uuid unit (2 ^ 32) (2 ^ 32) ∙ sym e) ∙ ap (λ (l : List ℕ). patch 0 l xs) k

drop-zeros : (a b : ℕ) → a ≤ b → drop a (zeros b) ≡ zeros (b - a)
drop-zeros a b h =
    let k : a + (b - a) ≡ b = omega arith in
    ap (λ (l : List ℕ). drop a l) (sym (replicate-append-replicate a (b - a) 0 ∙ ap zeros k))
    ∙ drop_at (zeros a) (zeros (b - a)) a (length-replicate {A = ℕ} a 0)

module _ (g : Geometry) (z : Bounds g) (uuid : List ℕ) where
  pub log-made : {r : ℕ} (unit : ℕ) (xs ys zs : List ℕ) → unit ≡ log_unit g → length xs ≡ g.blocksize → Put (0 + length xs) (patch 0 (replicate (length xs) 0) xs) xs r ys
      → zs ≡ patch 0 (log_record_bytes uuid unit (2 ^ 32) (2 ^ 32)) ys → zs ≡ log_block g uuid
  unfolding log_block first_record
  log-made unit xs ys zs u l w e =
      let rec = log_record_bytes uuid (log_unit g) (2 ^ 32) (2 ^ 32) in
      let n : ys ≡ zeros g.blocksize = put_in w (omega arith) ∙ patch-whole (replicate (length xs) 0) xs (length-replicate {A = ℕ} (length xs) 0) ∙ ap zeros l in
      let m : length rec ≡ 512 * basic_blocks_of (log_unit g) = record-length uuid (log_unit g) (2 ^ 32) (2 ^ 32) in
      let s = record-whole g z in
      let f = record-fits g z in
      let lz : length (zeros g.blocksize) ≡ g.blocksize = length-replicate {A = ℕ} g.blocksize 0 in
      let k : 0 + length rec ≡ length rec = omega arith in
      e
      ∙ ap (λ (v : ℕ). patch 0 (log_record_bytes uuid v (2 ^ 32) (2 ^ 32)) ys) u
      ∙ ap (λ (v : List ℕ). patch 0 rec v) n
      ∙ patch-split 0 rec (zeros g.blocksize) (omega arith)
      ∙ ap (λ (v : ℕ). rec ++ drop v (zeros g.blocksize)) k
      ∙ ap (λ (v : List ℕ). rec ++ v) (drop-zeros (length rec) g.blocksize (omega arith))
