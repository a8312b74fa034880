-- Laws of a byte's text, and a turn of the loop that stores a label's.
-- Assumes nothing.
use mathlib.Core.Path.{◌≡◌, refl, sym, ap, ◌∙◌}
use mathlib.Core.Bool.{Bool, true, false, ◌&&◌, cond}
use mathlib.Core.List.{List, [], ◌∷◌, ◌++◌}
use Prim.Native.Nat.{ℕ, ◌+◌, ◌-◌, ◌/◌, ◌%◌, ◌≤◌, ◌<◌}
use native.Mathlib.Omega.{arith}
use lib.Dec.{eqb}
use lib.ListN.{length, get_or, set, drop, replicate, length-append}
use lib.Seq.{drop-length}
use borrow.Author.Tests.{lt-leb, le-leb, lt-ltb, le-ltb, eq-eqb, ne_eqb}
use Rattle.arith.specs.Choice.{when}
use Rattle.endian.specs.Bytes.{patch}
use Rattle.endian.proofs.Laws.{patch-append, drop-turn}
use Rattle.label_text.specs.Text.{is_plain, hex_digit, escape, shown_byte, label_text, text_of}

-- ---- a byte
module _ (b : ℕ) where
  pub low : b < 32 → false ≡ is_plain b
  unfolding is_plain
  low h = rw (lt-leb 32 b h) refl

  module _ (l : 32 ≤ b) where
    pub high : 126 < b → false ≡ is_plain b
    unfolding is_plain
    high h = rw (le-leb 32 b l, lt-leb b 126 h) refl

    module _ (m : b ≤ 126) where
      pub quote-is : b ≡ 34 → false ≡ is_plain b
      unfolding is_plain
      quote-is e = rw (le-leb 32 b l, le-leb b 126 m, eq-eqb b 34 e) refl

      module _ (q : b ≡ 34 → ⊥) where
        pub backslash-is : b ≡ 92 → false ≡ is_plain b
        unfolding is_plain
        backslash-is e = rw (le-leb 32 b l, le-leb b 126 m, ne_eqb b 34 q, eq-eqb b 92 e) refl

        pub plain-is : (b ≡ 92 → ⊥) → true ≡ is_plain b
        unfolding is_plain
        plain-is s = rw (le-leb 32 b l, le-leb b 126 m, ne_eqb b 34 q, ne_eqb b 92 s) refl

  pub digit_low : b < 10 → 48 + b ≡ hex_digit b
  unfolding hex_digit when
  digit_low h = rw (lt-ltb b 10 h) refl

  pub digit-high : 10 ≤ b → 87 + b ≡ hex_digit b
  unfolding hex_digit when
  digit-high h = rw (le-ltb b 10 h) refl

  pub plain-text : is_plain b ≡ true → escape b ≡ b ∷ []
  unfolding escape
  plain-text h = rw h refl

  pub hex-text : is_plain b ≡ false → escape b ≡ 92 ∷ 120 ∷ hex_digit (b / 16) ∷ hex_digit (b % 16) ∷ []
  unfolding escape
  hex-text h = rw h refl

  pub escape-most : length (escape b) ≤ 4
  unfolding escape
  escape-most = by (is_plain b)
    where
      by : (t : Bool) → length (cond t (b ∷ []) (92 ∷ 120 ∷ hex_digit (b / 16) ∷ hex_digit (b % 16) ∷ [])) ≤ 4
      by true = omega arith
      by false = omega arith

-- ---- a byte before a text of n bytes
module _ (b n : ℕ) where
  pub hidden : b ≡ 0 → n ≡ 0 → shown_byte b n ≡ []
  unfolding shown_byte
  hidden e f = rw (eq-eqb b 0 e, eq-eqb n 0 f) refl

  pub zero-shown : b ≡ 0 → (n ≡ 0 → ⊥) → shown_byte b n ≡ escape b
  unfolding shown_byte
  zero-shown e f = rw (eq-eqb b 0 e, ne_eqb n 0 f) refl

  pub other-shown : (b ≡ 0 → ⊥) → shown_byte b n ≡ escape b
  unfolding shown_byte
  other-shown e = rw (ne_eqb b 0 e) refl

  pub shown-most : length (shown_byte b n) ≤ 4
  unfolding shown_byte
  shown-most = by (eqb b 0 && eqb n 0)
    where
      by : (t : Bool) → length (cond t [] (escape b)) ≤ 4
      by true = omega arith
      by false = escape-most b

-- bytes that are the same text
pub stored : (r end : ℕ) (text same old : List ℕ) {left : List ℕ} → text ≡ same → (r + length same ≡ end) × (left ≡ patch r same old)
    → (r + length text ≡ end) × (left ≡ patch r text old)
stored r end text same old e p = rw e p

pub none-stored : (end : ℕ) (text old : List ℕ) → text ≡ [] → (end + length text ≡ end) × (old ≡ patch end text old)
unfolding patch
none-stored end text old e = rw e (omega arith, refl)

pub one-stored : (end b : ℕ) (text old : List ℕ) → 1 ≤ end → text ≡ b ∷ [] → (end - 1 + length text ≡ end) × (set old (end - 1) b ≡ patch (end - 1) text old)
unfolding patch
one-stored end b text old h e = rw e (omega arith, refl)

pub hex-stored : (b end d e : ℕ) (old : List ℕ) {left : List ℕ} → is_plain b ≡ false → 4 ≤ end → d ≡ hex_digit (b / 16) → e ≡ hex_digit (b % 16)
    → left ≡ patch (end - 4) (92 ∷ 120 ∷ d ∷ e ∷ []) old → (end - 4 + length (escape b) ≡ end) × (left ≡ patch (end - 4) (escape b) old)
hex-stored b end d e old h k p q l = rw (hex-text b h, ← p, ← q) (omega arith, l)

pub text-made : (label bytes : List ℕ) (start : ℕ) → start + length (label_text label) ≡ 48 → bytes ≡ patch start (label_text label) (replicate 48 0)
    → record { bytes = bytes; start = start } ≡ text_of label
unfolding text_of
text-made label bytes start e l =
    let s : start ≡ 48 - length (label_text label) = omega arith in
    ap (λ (xs : List ℕ). record { bytes = xs; start = start }) l ∙ ap (λ (k : ℕ). record { bytes = patch k (label_text label) (replicate 48 0); start = k }) s

-- ---- the loop
module _ (i : ℕ) (label : List ℕ) (pos : 0 < i) (le : i ≤ length label) where
  last-first : drop (i - 1) label ≡ get_or label (i - 1) 0 ∷ drop i label
  last-first = sym (drop-turn 0 i pos label le)

  text-turn : label_text (drop (i - 1) label) ≡ shown_byte (get_or label (i - 1) 0) (length (label_text (drop i label))) ++ label_text (drop i label)
  unfolding label_text
  text-turn = rw last-first refl

  -- the byte before the text that stands from `to` on
  module _ (at to : ℕ) (xs ys zs : List ℕ) (ends : to + length (label_text (drop i label)) ≡ 48) (so : ys ≡ patch to (label_text (drop i label)) xs)
      (begins : at + length (shown_byte (get_or label (i - 1) 0) (48 - to)) ≡ to) (put : zs ≡ patch at (shown_byte (get_or label (i - 1) 0) (48 - to)) ys) where
    behind : 48 - to ≡ length (label_text (drop i label))
    behind = omega arith

    pub turn-bytes : zs ≡ patch at (label_text (drop (i - 1) label)) xs
    turn-bytes =
        let s = shown_byte (get_or label (i - 1) 0) (48 - to) in
        put ∙ ap (patch at s) (so ∙ ap (λ (k : ℕ). patch k (label_text (drop i label)) xs) (sym begins))
        ∙ sym (patch-append at s (label_text (drop i label)) xs)
        ∙ ap (λ (bs : List ℕ). patch at bs xs) (ap (λ (k : ℕ). shown_byte (get_or label (i - 1) 0) k ++ label_text (drop i label)) behind ∙ sym text-turn)

    pub turn-ends : at + length (label_text (drop (i - 1) label)) ≡ 48
    turn-ends =
        let e = ap length text-turn ∙ length-append (shown_byte (get_or label (i - 1) 0) (length (label_text (drop i label)))) (label_text (drop i label)) in
        let f = ap (λ (k : ℕ). length (shown_byte (get_or label (i - 1) 0) k)) behind in
        omega arith

pub none_left : (label : List ℕ) (n : ℕ) → length label ≡ n → label_text (drop n label) ≡ []
unfolding label_text
none_left label n e = rw (← e, drop-length label) refl
