-- The bytes of records, and of a write that is split into its blocks.
-- Assumes nothing.
use mathlib.Core.Path.{◌≡◌, refl, sym, ap, ◌∙◌}
use mathlib.Core.List.{List, [], ◌∷◌, ◌++◌, append_assoc}
use Prim.Native.Nat.{ℕ, suc, ◌+◌, ◌*◌, ◌-◌, ◌<◌, ◌≤◌, ◌^◌}
use native.Mathlib.Omega.{arith}
use native.Mathlib.Nat.{mul-le-mul_right}
use lib.ListN.{length, take, drop, length-drop}
use lib.Seq.{length-take-le, drop-drop}
use native.Mathlib.Numerals.{add-one}
use Rattle.endian.specs.Answer.{Put}
use Rattle.endian.specs.Bytes.{be_bytes, patch}
use Rattle.endian.proofs.Laws.{length-be, length-patch, patch-append, patch-split, put_in}
use Rattle.structs.proofs.Reading.{patch-apart}
use Rattle.list_records.specs.Records.{Record, WZ, Wb, FL, record_bytes, list_bytes, block_records}
use Rattle.list_records.proofs.Sizes.{block-bytes}
use Rattle.list_records.proofs.Sums.{blocks-bytes}
use Rattle.list_lengths.specs.Lengths.{blocks_length}
use Rattle.list_write.specs.Writing.{record_head}

-- ---- one record

pub zeros-head : (offset n : ℕ) → record_bytes (WZ offset n) ≡ record_head 0x575a offset n
unfolding record_bytes record_head be_bytes
zeros-head offset n = refl

pub block-head : (offset : ℕ) (bytes : List ℕ) → record_bytes (Wb offset bytes) ≡ record_head 0x5742 offset (length bytes) ++ bytes
unfolding record_bytes record_head be_bytes
block-head offset bytes = refl

pub flush-bytes : record_bytes FL ≡ be_bytes 2 0x464c
unfolding record_bytes be_bytes
flush-bytes = refl

pub head-length : (mark offset n : ℕ) → length (record_head mark offset n) ≡ 18
unfolding record_head be_bytes
head-length mark offset n = refl

-- mark, offset and length, the last written first
pub head_done : {p q r : ℕ} (mark offset n at : ℕ) (xs ys zs ws : List ℕ) → at + 18 ≤ length xs
    → Put (at + 10 + 8) (patch (at + 10) (be_bytes 8 n) xs) xs p ys → Put (at + 2 + 8) (patch (at + 2) (be_bytes 8 offset) ys) ys q zs
    → Put (at + 2) (patch at (be_bytes 2 mark) zs) zs r ws → ws ≡ patch at (record_head mark offset n) xs
unfolding record_head
head_done mark offset n at xs ys zs ws h p q r =
    let a : ys ≡ patch (at + 10) (be_bytes 8 n) xs = put_in p (omega arith) in
    let la : length ys ≡ length xs = ap (λ (l : List ℕ). length l) a ∙ length-patch (at + 10) (be_bytes 8 n) xs in
    let b : zs ≡ patch (at + 2) (be_bytes 8 offset) ys = put_in q (omega arith) in
    let lb : length zs ≡ length ys = ap (λ (l : List ℕ). length l) b ∙ length-patch (at + 2) (be_bytes 8 offset) ys in
    let c : ws ≡ patch at (be_bytes 2 mark) zs = put_in r (omega arith) in
    let k : at + 2 + length (be_bytes 8 offset) ≡ at + 10 = omega (arith, length-be 8 offset) in
    let m : at + length (be_bytes 2 mark) ≡ at + 2 = omega (arith, length-be 2 mark) in
    c
    ∙ ap (λ (l : List ℕ). patch at (be_bytes 2 mark) l)
    (b ∙ ap (λ (l : List ℕ). patch (at + 2) (be_bytes 8 offset) l) (a ∙ ap (λ (i : ℕ). patch i (be_bytes 8 n) xs) (sym k)) ∙ sym (patch-append (at + 2) (be_bytes 8 offset) (be_bytes 8 n) xs) ∙ ap (λ (i : ℕ). patch i (be_bytes 8 offset ++ be_bytes 8 n) xs) (sym m))
    ∙ sym (patch-append at (be_bytes 2 mark) (be_bytes 8 offset ++ be_bytes 8 n) xs)

-- the bytes of `src` in place of those at `at`
pub copied : (at : ℕ) (src xs : List ℕ) → at + length src ≤ length xs → take at xs ++ (src ++ drop (at + length src - at) (drop at xs)) ≡ patch at src xs
copied at src xs h =
    let whole : at + length src - at ≡ length src = omega arith in
    rw (whole, drop-drop) (sym (patch-split at src xs h))

-- a block and the head before it
pub block-done : (offset at : ℕ) (src xs ys zs : List ℕ)
    → ys ≡ patch (at + 18) src xs → zs ≡ patch at (record_head 0x5742 offset (length src)) ys → zs ≡ patch at (record_bytes (Wb offset src)) xs
block-done offset at src xs ys zs a e =
    let k : at + length (record_head 0x5742 offset (length src)) ≡ at + 18 = ap (λ (i : ℕ). at + i) (head-length 0x5742 offset (length src)) in
    e
    ∙ ap (λ (l : List ℕ). patch at (record_head 0x5742 offset (length src)) l) (a ∙ ap (λ (i : ℕ). patch i src xs) (sym k))
    ∙ sym (patch-append at (record_head 0x5742 offset (length src)) src xs)
    ∙ ap (λ (l : List ℕ). patch at l xs) (sym (block-head offset src))

-- block j of a write
pub nth-done : (bs offset j at : ℕ) (src xs ys : List ℕ)
    → ys ≡ patch (at + j * (18 + bs)) (record_bytes (Wb (offset + j * bs) (take (j * bs + bs - j * bs) (drop (j * bs) src)))) xs
    → ys ≡ patch (at + j * (18 + bs)) (record_bytes (Wb (offset + j * bs) (take bs (drop (j * bs) src)))) xs
nth-done bs offset j at src xs ys e =
    let z : j * bs + bs - j * bs ≡ bs = omega arith in
    e ∙ ap (λ (n : ℕ). patch (at + j * (18 + bs)) (record_bytes (Wb (offset + j * bs) (take n (drop (j * bs) src)))) xs) z

-- ---- records one after the other

pub list-append : (rs ss : List Record) → list_bytes (rs ++ ss) ≡ list_bytes rs ++ list_bytes ss
unfolding list_bytes
list-append [] ss = refl
list-append (r ∷ rs) ss = ap (λ (l : List ℕ). record_bytes r ++ l) (list-append rs ss) ∙ sym (append_assoc (record_bytes r) (list_bytes rs) (list_bytes ss))

pub blocks-length : (bs offset n : ℕ) (bytes : List ℕ) → n * bs ≤ length bytes → length (list_bytes (block_records bs offset n bytes)) ≡ blocks_length bs n
unfolding blocks_length
blocks-length = blocks-bytes

-- the blocks of a write from j on, as records from the j-th on
pub blocks_from : ℕ → ℕ → ℕ → List ℕ → ℕ → List ℕ
blocks_from bs offset n src j = list_bytes (block_records bs (offset + j * bs) (n - j) (drop (j * bs) src))

module _ (bs offset n at : ℕ) (src : List ℕ) where
  -- block i is put before those that are there
  turn_at : (i : ℕ) (xs : List ℕ) → i < n → n * bs ≤ length src → patch (at + i * (18 + bs)) (record_bytes (Wb (offset + i * bs) (take bs (drop (i * bs) src)))) (patch (at + suc i * (18 + bs)) (blocks_from bs offset n src (suc i)) xs)
      ≡ patch (at + i * (18 + bs)) (blocks_from bs offset n src i) xs
  unfolding blocks_from list_bytes block_records
  turn_at i xs h l =
      let m : n - i ≡ suc (n - suc i) = omega arith in
      let w = mul-le-mul_right bs h in
      let b = record_bytes (Wb (offset + i * bs) (take bs (drop (i * bs) src))) in
      let lt : length (take bs (drop (i * bs) src)) ≡ bs = length-take-le bs (drop (i * bs) src) (omega (arith, length-drop (i * bs) src)) in
      let lb : length b ≡ 18 + length (take bs (drop (i * bs) src)) = block-bytes (offset + i * bs) (take bs (drop (i * bs) src)) in
      let p : at + suc i * (18 + bs) ≡ at + i * (18 + bs) + length b = omega arith in
      let o : offset + suc i * bs ≡ offset + i * bs + bs = omega arith in
      let k : suc i * bs ≡ i * bs + bs = omega arith in
      let d : drop (suc i * bs) src ≡ drop bs (drop (i * bs) src) = ap (λ (x : ℕ). drop x src) k ∙ sym (drop-drop bs (i * bs) src) in
      rw (p, o, d) (sym (rw m (patch-append (at + i * (18 + bs)) b (list_bytes (block_records bs (offset + i * bs + bs) (n - suc i) (drop bs (drop (i * bs) src)))) xs)))

  -- block j is put, and those after it are still to come
  pub blocks-turn : (j : ℕ) (xs ys zs : List ℕ) → j < n → n * bs ≤ length src → patch (at + j * (18 + bs)) (blocks_from bs offset n src j) ys ≡ patch at (list_bytes (block_records bs offset n src)) xs
      → zs ≡ patch (at + j * (18 + bs)) (record_bytes (Wb (offset + j * bs) (take bs (drop (j * bs) src)))) ys
      → patch (at + (j + 1) * (18 + bs)) (blocks_from bs offset n src (j + 1)) zs ≡ patch at (list_bytes (block_records bs offset n src)) xs
  blocks-turn j xs ys zs h l e d =
      let w = mul-le-mul_right bs h in
      let b = record_bytes (Wb (offset + j * bs) (take bs (drop (j * bs) src))) in
      let r = blocks_from bs offset n src (suc j) in
      let lt : length (take bs (drop (j * bs) src)) ≡ bs = length-take-le bs (drop (j * bs) src) (omega (arith, length-drop (j * bs) src)) in
      let lb : length b ≡ 18 + length (take bs (drop (j * bs) src)) = block-bytes (offset + j * bs) (take bs (drop (j * bs) src)) in
      let p : at + j * (18 + bs) + length b ≤ at + suc j * (18 + bs) = omega arith in
      ap (λ (i : ℕ). patch (at + i * (18 + bs)) (blocks_from bs offset n src i) zs) (add-one j)
      ∙ ap (λ (v : List ℕ). patch (at + suc j * (18 + bs)) r v) d
      ∙ sym (patch-apart (at + j * (18 + bs)) (at + suc j * (18 + bs)) b r ys p)
      ∙ turn_at j ys h l
      ∙ e

  -- all are still to come
  pub blocks_start : (xs : List ℕ) → patch (at + 0 * (18 + bs)) (blocks_from bs offset n src 0) xs ≡ patch at (list_bytes (block_records bs offset n src)) xs
  unfolding blocks_from
  blocks_start xs =
      let a : at + 0 * (18 + bs) ≡ at = omega arith in
      let o : offset + 0 * bs ≡ offset = omega arith in
      let m : n - 0 ≡ n = omega arith in
      let k : 0 * bs ≡ 0 = omega arith in
      rw (a, o, m, k) refl

  -- none is
  blocks-none : (j : ℕ) (ys : List ℕ) → n ≤ j → ys ≡ patch (at + j * (18 + bs)) (blocks_from bs offset n src j) ys
  unfolding blocks_from list_bytes block_records patch
  blocks-none j ys h = let z : n - j ≡ 0 = omega arith in rw z refl

  pub blocks_end : (j : ℕ) (xs ys : List ℕ) → n ≤ j → patch (at + j * (18 + bs)) (blocks_from bs offset n src j) ys ≡ patch at (list_bytes (block_records bs offset n src)) xs → ys ≡ patch at (list_bytes (block_records bs offset n src)) xs
  blocks_end j xs ys h e = blocks-none j ys h ∙ e

-- what block j needs
pub nth-room : (bs offset n at j len work : ℕ) → j < n → offset + n * bs ≤ 2 ^ 64 → 0 < bs → n * bs ≤ len → at + n * (18 + bs) ≤ work
    → (offset + j * bs < 2 ^ 64) × (j * bs + bs ≤ len) × (at + (j * (18 + bs) + (18 + bs)) ≤ work)
nth-room bs offset n at j len work h o b l r =
    let s : suc j ≤ n = omega arith in
    let v = mul-le-mul_right bs s in
    let w = mul-le-mul_right (18 + bs) s in
    (omega arith, omega arith, omega arith)
