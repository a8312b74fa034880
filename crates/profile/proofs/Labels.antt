-- A label filled up with zeros, and found again without them; where no rule is asked, and what the rules don't read.
-- Assumes nothing.
use mathlib.Core.Path.{◌≡◌, refl, sym, ap, ◌∙◌}
use mathlib.Core.Bool.{Bool, true, false, not, ◌&&◌, cond}
use mathlib.Core.List.{List, [], ◌∷◌, ◌++◌}
use Prim.Native.Nat.{ℕ, zero, suc, ◌-◌, ◌≤◌, min}
use native.Mathlib.Omega.{arith}
use borrow.Author.Tests.{eqb-true, ne_eqb, leb-true, le-leb}
use lib.Dec.{leb, eqb}
use lib.ListN.{length, take, replicate}
use lib.Seq.{length-take-le, take-append_seam}
use Rattle.refusals.specs.Numbers.{not_in_profile}
use Rattle.arith.specs.Choice.{when}
use Rattle.arith.proofs.Both.{right-true, left-true, both_true}
use Rattle.seqs.proofs.Laws.{never}
use Rattle.params.specs.declared.Label.{Label}
use Rattle.geometry.specs.declared.Geometry.{Geometry}
use Rattle.geometry.specs.Compute.{label_of}
use Rattle.profile.specs.Rules.{allowed_sector, all_on, allowed_groups, label_byte, label_bytes, allowed_label, in_profile, profile_number, trimmed, label_on}

-- ---- the number

-- a run that isn't under the profile isn't refused by it
pub not-under : (g : Geometry) (l : Label) → profile_number false g l ≡ 0
unfolding when
not-under g l = refl

outside : (t : Bool) → when (not t) not_in_profile 0 ≡ 0 → t ≡ true
unfolding when
outside true e = refl
outside false e = absurd (omega arith)

-- under it 0 and 37 say whether the rules hold
pub number-allowed : (g : Geometry) (l : Label) → profile_number true g l ≡ 0 → in_profile g l ≡ true
number-allowed g l e = outside (in_profile g l) e

pub allowed-number : (under : Bool) (g : Geometry) (l : Label) → in_profile g l ≡ true → profile_number under g l ≡ 0
unfolding when
allowed-number true g l e = rw e refl
allowed-number false g l e = refl

pub refused-number : (g : Geometry) (l : Label) → in_profile g l ≡ false → profile_number true g l ≡ not_in_profile
unfolding when
refused-number g l e = rw e refl

-- ---- zeros behind a label

shorter : (xs : List ℕ) → length (trimmed xs) ≤ length xs
unfolding trimmed
shorter [] = omega arith
shorter (x ∷ xs) = go (eqb x 0 && eqb (length (trimmed xs)) 0) (shorter xs)
  where
    go : (t : Bool) → length (trimmed xs) ≤ length xs → length (cond t [] (x ∷ trimmed xs)) ≤ suc (length xs)
    go true h = omega arith
    go false h = omega arith

filled : (xs : List ℕ) → take (length (trimmed xs)) xs ++ replicate (length xs - length (trimmed xs)) 0 ≡ xs
unfolding trimmed
filled [] = refl
filled (x ∷ xs) = go (eqb x 0) (eqb (length (trimmed xs)) 0) refl refl (filled xs)
  where
    kept : take (length (trimmed xs)) xs ++ replicate (length xs - length (trimmed xs)) 0 ≡ xs
        → take (suc (length (trimmed xs))) (x ∷ xs) ++ replicate (suc (length xs) - suc (length (trimmed xs))) 0 ≡ x ∷ xs
    kept f =
        let s : suc (length xs) - suc (length (trimmed xs)) ≡ length xs - length (trimmed xs) = omega arith in
        ap (λ (k : ℕ). x ∷ (take (length (trimmed xs)) xs ++ replicate k 0)) s ∙ ap (λ (ys : List ℕ). x ∷ ys) f

    go : (t s : Bool) → eqb x 0 ≡ t → eqb (length (trimmed xs)) 0 ≡ s
        → take (length (trimmed xs)) xs ++ replicate (length xs - length (trimmed xs)) 0 ≡ xs
        → take (length (cond (t && s) [] (x ∷ trimmed xs))) (x ∷ xs) ++ replicate (suc (length xs) - length (cond (t && s) [] (x ∷ trimmed xs))) 0 ≡ x ∷ xs
    go true true e d f =
        let m = eqb-true (length (trimmed xs)) 0 d in
        let z : suc (length xs) - 0 ≡ suc (length xs - length (trimmed xs)) = omega (arith, m) in
        let r : replicate (length xs - length (trimmed xs)) 0 ≡ xs = ap (λ (k : ℕ). take k xs ++ replicate (length xs - length (trimmed xs)) 0) (sym m) ∙ f in
        ap (λ (k : ℕ). replicate k 0) z ∙ ap (λ (ys : List ℕ). 0 ∷ ys) r ∙ ap (λ (y : ℕ). y ∷ xs) (sym (eqb-true x 0 e))
    go true false e d f = kept f
    go false s e d f = kept f

-- the label of a disk, filled up again, is its field
pub field-again : (xs : List ℕ) → length xs ≡ 12 → label_of (length (trimmed xs)) xs ≡ xs
unfolding label_of
field-again xs l =
    let h = shorter xs in
    let m : min (length (trimmed xs)) 12 ≡ length (trimmed xs) = omega arith in
    let d : 12 - length (trimmed xs) ≡ length xs - length (trimmed xs) = omega arith in
    ap (λ (k : ℕ). take k xs ++ replicate (12 - k) 0) m
    ∙ ap (λ (k : ℕ). take (length (trimmed xs)) xs ++ replicate k 0) d
    ∙ filled xs

pub label-short : (xs : List ℕ) → length xs ≡ 12 → length (trimmed xs) ≤ 12
label-short xs l = let h = shorter xs in omega arith

-- ---- an allowed label

zeros-gone : (m : ℕ) → trimmed (replicate m 0) ≡ []
unfolding trimmed
zeros-gone zero = refl
zeros-gone (suc m) = rw (zeros-gone m) refl

zero-refused : label_byte 0 ≡ false
unfolding label_byte
zero-refused = refl

no_zero : (b : ℕ) → label_byte b ≡ true → b ≡ 0 → ⊥
no_zero b e z = never (sym zero-refused ∙ ap label_byte (sym z) ∙ e)

-- has no zero, so that it ends where it did before zeros were put behind it
pub found-again : (xs : List ℕ) (m : ℕ) → label_bytes xs ≡ true → trimmed (xs ++ replicate m 0) ≡ xs
unfolding trimmed label_bytes
found-again [] m e = zeros-gone m
found-again (x ∷ xs) m e =
    rw (ne_eqb x 0 (no_zero x (left-true (label_byte x) (label_bytes xs) e)))
    (ap (λ (ys : List ℕ). x ∷ ys) (found-again xs m (right-true (label_byte x) (label_bytes xs) e)))

-- the parts of the rule
module _ (l : Label) (a : allowed_label l ≡ true) where
  abbrev bounds : Bool
  bounds = leb 1 l.length && leb l.length 12

  pub allowed-least : 1 ≤ l.length
  unfolding allowed_label
  allowed-least =
      leb-true 1 l.length (left-true (leb 1 l.length) (leb l.length 12) (left-true bounds (label_bytes (take l.length l.bytes)) a))

  pub allowed-most : l.length ≤ 12
  unfolding allowed_label
  allowed-most =
      leb-true l.length 12 (right-true (leb 1 l.length) (leb l.length 12) (left-true bounds (label_bytes (take l.length l.bytes)) a))

  pub allowed-bytes : label_bytes (take l.length l.bytes) ≡ true
  unfolding allowed_label
  allowed-bytes = right-true bounds (label_bytes (take l.length l.bytes)) a

  -- and the same label is read in the field that it fills
  module _ (g : Geometry) (room : length l.bytes ≡ 12) (field : g.label ≡ label_of l.length l.bytes) where
    abbrev text : List ℕ
    text = take l.length l.bytes

    in_field : g.label ≡ text ++ replicate (12 - l.length) 0
    unfolding label_of
    in_field =
        let h = allowed-most in
        let m : min l.length 12 ≡ l.length = omega arith in
        field ∙ ap (λ (k : ℕ). take k l.bytes ++ replicate (12 - k) 0) m

    trims : trimmed g.label ≡ text
    trims = ap trimmed in_field ∙ found-again text (12 - l.length) allowed-bytes

    same_length : length (trimmed g.label) ≡ l.length
    same_length = let h = allowed-most in ap length trims ∙ length-take-le l.length l.bytes (omega arith)

    same_bytes : take (length (trimmed g.label)) g.label ≡ text
    same_bytes = ap (λ (k : ℕ). take k g.label) (ap length trims) ∙ ap (take (length text)) in_field ∙ take-append_seam text (replicate (12 - l.length) 0)

    pub read-allowed : allowed_label (label_on g) ≡ true
    unfolding allowed_label label_on
    read-allowed =
        let n = same_length in
        let h = allowed-most in
        let k = allowed-least in
        both_true _ _
        (both_true _ _ (le-leb 1 (length (trimmed g.label)) (omega arith)) (le-leb (length (trimmed g.label)) 12 (omega arith)))
        (ap label_bytes same_bytes ∙ allowed-bytes)

-- ---- the rules but for the label's

abbrev others : Geometry → Bool
others g = eqb g.blocksize 4096 && allowed_sector g.sectsize && eqb g.inodesize 512 && all_on g.features && allowed_groups g.agcount

label-part : (g : Geometry) (l : Label) → in_profile g l ≡ true → allowed_label l ≡ true
unfolding in_profile
label-part g l e = right-true (others g) (allowed_label l) e

-- the label's rule may be judged by another label that is allowed too
other-label : (g : Geometry) (l m : Label) → in_profile g l ≡ true → allowed_label m ≡ true → in_profile g m ≡ true
unfolding in_profile
other-label g l m e a = both_true (others g) (allowed_label m) (left-true (others g) (allowed_label l) e) a

-- A RUN WITHIN THE PROFILE LEAVES A DISK WITHIN IT
pub disk-within : (g : Geometry) (l : Label) → length l.bytes ≡ 12 → g.label ≡ label_of l.length l.bytes → in_profile g l ≡ true → in_profile g (label_on g) ≡ true
disk-within g l room field e = other-label g l (label_on g) e (read-allowed l (label-part g l e) g room field)
