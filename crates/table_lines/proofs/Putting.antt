-- What a function answers that writes a line where it fits.
-- Assumes nothing.
use mathlib.Core.Path.{◌≡◌, refl, sym, ap, ◌∙◌}
use mathlib.Core.Bool.{Bool, true, false}
use mathlib.Core.List.{List, [], ◌∷◌, ◌++◌}
use Prim.Native.Nat.{ℕ, ◌+◌, ◌≤◌}
use native.Mathlib.Omega.{arith}
use lib.Dec.{leb}
use lib.ListN.{length, length-append}
use borrow.Author.Tests.{leb-true}
use Rattle.refusals.specs.Numbers.{wrong_length}
use Rattle.endian.specs.Answer.{valued}
use Rattle.endian.specs.Bytes.{patch}
use Rattle.endian.proofs.Laws.{patch-append}
use Rattle.table_lines.specs.Lines.{PutLine}

module _ (at n : ℕ) (bytes old : List ℕ) (len : n ≡ length bytes) where
  pub refused-line : leb (at + n) (length old) ≡ false → {number end : ℕ} → number ≡ wrong_length → end ≡ 0 → PutLine at bytes old number end old
  refused-line t a b =
      let u = rw len at t in
      record { number_is = rw u a; end_is = rw u b; bytes-are = rw u refl }

  pub done-line : leb (at + n) (length old) ≡ true → {left : List ℕ} → left ≡ patch at bytes old → PutLine at bytes old 0 (at + n) left
  done-line t d =
      let u = rw len at t in
      record { number_is = rw u refl; end_is = rw u (ap (λ (k : ℕ). at + k) len); bytes-are = rw u d }

-- the numbers begin where they should
pub starts : (at s n : ℕ) (bytes old : List ℕ) {left : List ℕ} → n ≡ length bytes → s + length bytes ≡ at + n → left ≡ patch s bytes old → left ≡ patch at bytes old
starts at s n bytes old e d l =
    let k : s ≡ at = omega arith in
    l ∙ ap (λ (o : ℕ). patch o bytes old) k

-- the word is written before them
pub word_line : (at s : ℕ) (word bytes old : List ℕ) {ys left : List ℕ} → s ≡ at + length word → ys ≡ patch s bytes old → left ≡ patch at word ys → left ≡ patch at (word ++ bytes) old
word_line at s word bytes old e y l =
    l ∙ ap (patch at word) (y ∙ ap (λ (o : ℕ). patch o bytes old) e) ∙ sym (patch-append at word bytes old)

pub word-length : (word bytes : List ℕ) (n : ℕ) → n ≡ length bytes → length word + n ≡ length (word ++ bytes)
word-length word bytes n e = ap (λ (k : ℕ). length word + k) e ∙ sym (length-append word bytes)

-- a number has one byte behind it
pub number-length : (digits : List ℕ) (b n : ℕ) → n ≡ length digits → n + 1 ≡ length (digits ++ (b ∷ []))
number-length digits b n e = ap (λ (k : ℕ). k + 1) e ∙ sym (length-append digits (b ∷ []))

-- a line ends inside the buffer
pub line-inside : {at : ℕ} {bytes old : List ℕ} {number end : ℕ} {left : List ℕ} → PutLine at bytes old number end left → end ≤ length old
line-inside {at} {bytes} {old} p = rw p.end_is (valued-most (at + length bytes) (length old))
  where
    valued-most : (m n : ℕ) → valued (leb m n) m ≤ n
    valued-most m n = by (leb m n) refl
      where
        by : (t : Bool) → leb m n ≡ t → valued t m ≤ n
        by true e = leb-true m n e
        by false e = omega arith
