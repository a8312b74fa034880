-- Two parts of a line, the second written first: what the whole answers; and how long a part is.
-- Assumes nothing.
use mathlib.Core.Path.{◌≡◌, refl, sym, ap, ◌∙◌}
use mathlib.Core.Bool.{Bool, true, false, cond}
use mathlib.Core.List.{List, [], ◌∷◌, ◌++◌}
use Prim.Native.Nat.{ℕ, ◌+◌, ◌≤◌}
use native.Mathlib.Omega.{arith}
use lib.Dec.{leb}
use lib.ListN.{length, length-append}
use borrow.Author.Tests.{leb-false, le-leb, lt-leb}
use Rattle.refusals.specs.Numbers.{wrong_length}
use Rattle.endian.specs.Answer.{answer}
use Rattle.endian.specs.Bytes.{patch}
use Rattle.endian.proofs.Laws.{patch-append}
use Rattle.table_lines.specs.Decimal.{decimal}
use Rattle.table_lines.specs.Lines.{space, newline, PutLine}
use Rattle.inquire_lines.specs.Items.{with_byte, item_bytes}

-- 0 says that there was room, another number that there was none
room_of : (t : Bool) → answer t ≡ 0 → t ≡ true
room_of true e = refl
room_of false e = absurd (omega arith)

no-room-of : (t : Bool) → (answer t ≡ 0 → ⊥) → t ≡ false
no-room-of true h = absurd (h refl)
no-room-of false h = refl

module _ (at : ℕ) (bytes old : List ℕ) {number end : ℕ} {left : List ℕ} where
  -- bytes that fit, and bytes that don't
  pub put_whole : leb (at + length bytes) (length old) ≡ true → number ≡ 0 → end ≡ at + length bytes → left ≡ patch at bytes old → PutLine at bytes old number end left
  put_whole t n e l = record { number_is = rw t n; end_is = rw t e; bytes-are = rw t l }

  pub put-none : leb (at + length bytes) (length old) ≡ false → number ≡ wrong_length → end ≡ 0 → left ≡ old → PutLine at bytes old number end left
  put-none t n e l = record { number_is = rw t n; end_is = rw t e; bytes-are = rw t l }

-- there was room for bytes, so they stand
pub put-there : {at : ℕ} {bytes old : List ℕ} {number end : ℕ} {left : List ℕ} → PutLine at bytes old number end left → at + length bytes ≤ length old → left ≡ patch at bytes old
put-there {at} {bytes} {old} p h = p.bytes-are ∙ rw (le-leb (at + length bytes) (length old) h) refl

-- the first part has n bytes
module _ (at n : ℕ) (first second old : List ℕ) (long : n ≡ length first) where
  abbrev whole : List ℕ
  whole = first ++ second

  ends : at + n + length second ≡ at + length whole
  ends = omega (arith, length-append first second)

  -- there is no room for the first
  pub first_short : leb (at + n) (length old) ≡ false → {number end : ℕ} → number ≡ wrong_length → end ≡ 0 → PutLine at whole old number end old
  first_short t a b =
      let h = leb-false (at + n) (length old) t in
      put-none at whole old (lt-leb (at + length whole) (length old) (omega (arith, length-append first second))) a b refl

  module _ {number end : ℕ} {mid : List ℕ} (p : PutLine (at + n) second old number end mid) where
    -- there is none for the second, which changed nothing
    pub second_short : (number ≡ 0 → ⊥) → PutLine at whole old number end mid
    second_short h =
        let t = no-room-of (leb (at + n + length second) (length old)) (λ z. h (p.number_is ∙ z)) in
        put-none at whole old (ap (λ (k : ℕ). leb k (length old)) (sym ends) ∙ t) (p.number_is ∙ rw t refl) (p.end_is ∙ rw t refl) (p.bytes-are ∙ rw t refl)

    -- there is for both
    pub both-put : number ≡ 0 → {left : List ℕ} → left ≡ patch at first mid → PutLine at whole old number end left
    both-put z l =
        let t = room_of (leb (at + n + length second) (length old)) (sym p.number_is ∙ z) in
        put_whole at whole old (ap (λ (k : ℕ). leb k (length old)) (sym ends) ∙ t) z (p.end_is ∙ rw t ends)
        (l ∙ ap (patch at first) (p.bytes-are ∙ rw t (ap (λ (k : ℕ). patch (at + k) second old) long)) ∙ sym (patch-append at first second old))

-- the bytes of a word and its number, and the one behind them
pub item-size : (word : List ℕ) (number d : ℕ) (last : Bool) → d ≡ length (decimal number) → length word + 1 + d + 1 ≡ length (item_bytes word number last)
unfolding item_bytes
item-size word number d last e =
    let b = cond last newline space in
    omega (
      arith,
      e,
      length-append (with_byte word space) (with_byte (decimal number) b),
      length-append word (space ∷ []),
      length-append (decimal number) (b ∷ []),
    )
