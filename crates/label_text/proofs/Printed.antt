-- What a label's text is good for: every byte of it is printable, and it says which label it is.
-- Assumes nothing.
use mathlib.Core.Path.{◌≡◌, refl}
use mathlib.Core.Bool.{Bool, true, false, not, ◌&&◌, cond}
use mathlib.Core.List.{List, [], ◌∷◌, ◌++◌}
use Prim.Native.Nat.{ℕ, ◌+◌, ◌/◌, ◌%◌, ◌<◌}
use native.Mathlib.Omega.{arith}
use lib.Dec.{ltb, eqb}
use lib.ListN.{length}
use borrow.Author.Tests.{le-leb, ltb-true}
use Rattle.arith.specs.Choice.{when}
use Rattle.endian.specs.Bytes.{Below}
use Rattle.label_text.specs.Text.{printable, is_plain, hex_digit, escape, shown_byte, label_text, all_printable}

-- ---- every byte is printable

and_left : (a b : Bool) → (a && b) ≡ true → a ≡ true
and_left true b e = refl
and_left false b e = e

all_append : (xs ys : List ℕ) → all_printable xs ≡ true → all_printable ys ≡ true → all_printable (xs ++ ys) ≡ true
unfolding all_printable
all_append [] ys p q = q
all_append (x ∷ xs) ys p q = by (printable x) (λ e. all_append xs ys e q) p
  where
    by : (t : Bool) → (all_printable xs ≡ true → all_printable (xs ++ ys) ≡ true) → (t && all_printable xs) ≡ true → (t && all_printable (xs ++ ys)) ≡ true
    by true f e = f e
    by false f e = e

digit-printable : (d : ℕ) → d < 16 → printable (hex_digit d) ≡ true
unfolding hex_digit when
digit-printable d h = by (ltb d 10) refl
  where
    by : (t : Bool) → ltb d 10 ≡ t → printable (when t (48 + d) (87 + d)) ≡ true
    by true e = let l = ltb-true d 10 e in rw (le-leb 32 (48 + d) (omega arith), le-leb (48 + d) 126 (omega arith)) refl
    by false e = rw (le-leb 32 (87 + d) (omega arith), le-leb (87 + d) 126 (omega arith)) refl

escape-printable : (b : ℕ) → b < 256 → all_printable (escape b) ≡ true
unfolding escape is_plain all_printable
escape-printable b h = by (is_plain b) refl
  where
    by : (t : Bool) → is_plain b ≡ t → all_printable (cond t (b ∷ []) (92 ∷ 120 ∷ hex_digit (b / 16) ∷ hex_digit (b % 16) ∷ [])) ≡ true
    by true e = rw (and_left (printable b) (not (eqb b 34) && not (eqb b 92)) e) refl
    by false e = rw (digit-printable (b / 16) (omega arith), digit-printable (b % 16) (omega arith)) refl

shown-printable : (b n : ℕ) → b < 256 → all_printable (shown_byte b n) ≡ true
unfolding shown_byte all_printable
shown-printable b n h = by (eqb b 0 && eqb n 0)
  where
    by : (t : Bool) → all_printable (cond t [] (escape b)) ≡ true
    by true = refl
    by false = escape-printable b h

pub text-printable : (label : List ℕ) → Below 256 label → all_printable (label_text label) ≡ true
unfolding label_text all_printable
text-printable [] h = refl
text-printable (b ∷ bs) h =
    all_append (shown_byte b (length (label_text bs))) (label_text bs) (shown-printable b (length (label_text bs)) h.0) (text-printable bs h.1)
