-- The part that a piece is split from, in the first bytes of the work buffer.
-- Assumes nothing.
use mathlib.Core.Path.{◌≡◌, ap, ◌∙◌}
use mathlib.Core.List.{List}
use Prim.Native.Nat.{ℕ, ◌+◌, ◌-◌, ◌≤◌}
use native.Mathlib.Omega.{arith}
use lib.ListN.{length, take, drop}
use lib.Seq.{take-append_seam}
use borrow.Rule.Slice.PartMut.{put_mid}
use Rattle.endian.specs.Bytes.{patch}
use Rattle.endian.proofs.Laws.{part-back}
use Rattle.head_bytes.proofs.Lending.{part_length}

-- a part that is lent from the start of the work buffer
pub lent-part : (n : ℕ) (new xs ys : List ℕ) → n ≤ length xs → length ys ≡ length (take (0 + n - 0) (drop 0 xs)) → ys ≡ new → put_mid 0 (0 + n - 0) xs ys ≡ patch 0 new xs
lent-part n new xs ys h l e =
    let q : 0 + n ≤ length xs = omega arith in
    part-back 0 n xs ys q (l ∙ part_length 0 n xs q) ∙ ap (λ (v : List ℕ). patch 0 v xs) e

-- and lent again
pub lent_again : (n : ℕ) (xs ys : List ℕ) → n ≤ length xs → length ys ≡ length (take (0 + n - 0) (drop 0 xs)) → take (0 + n - 0) (drop 0 (put_mid 0 (0 + n - 0) xs ys)) ≡ ys
lent_again n xs ys h l =
    let e : 0 + n - 0 ≡ length ys = let q = l ∙ part_length 0 n xs (omega arith) in omega arith in
    ap (λ (i : ℕ). take i (put_mid 0 (0 + n - 0) xs ys)) e ∙ take-append_seam ys _
