-- What holds of disks that share an area: what each takes, what is left, and which are admitted.
-- Assumes nothing.
use mathlib.Core.Path.{◌≡◌, refl, sym, ap, ap₂, ◌∙◌}
use mathlib.Core.Bool.{Bool, true, false, cond}
use mathlib.Core.List.{List, [], ◌∷◌, ◌++◌}
use Prim.Native.Nat.{ℕ, suc, ◌+◌, ◌-◌, ◌<◌, ◌≤◌}
use native.Mathlib.Omega.{arith}
use borrow.Author.Tests.{eq-eqb, ne_eqb, le-leb, lt-leb, leb-true}
use lib.Dec.{leb, eqb}
use lib.ListN.{length}
use Rattle.refusals.specs.Numbers.{area_too_small}
use Rattle.seqs.specs.Lists.{total}
use Rattle.list_size.specs.declared.ListSize.{ListSize}
use Rattle.list_size.specs.Sizes.{no_size}
use Rattle.list_cabinet.specs.Cabinet.{answer_with, taken_by, answers, left_after}
use Rattle.list_cabinet.specs.Shares.{admitted_lengths, admitted_bytes, answer_behind, Shares, Placed, ByLengths}

-- ---- one disk
module _ (left : ℕ) (own : ListSize) where
  pub own-refusal : (own.number ≡ 0 → ⊥) → answer_with left own ≡ own
  unfolding answer_with
  own-refusal h = rw (ne_eqb own.number 0 h) refl

  pub own-size : own.number ≡ 0 → own.bytes ≤ left → answer_with left own ≡ own
  unfolding answer_with
  own-size z h = rw (eq-eqb own.number 0 z, le-leb own.bytes left h) refl

  pub no_room : own.number ≡ 0 → left < own.bytes → answer_with left own ≡ no_size area_too_small
  unfolding answer_with
  no_room z h = rw (eq-eqb own.number 0 z, lt-leb own.bytes left h) refl

  -- it takes no more than is left
  taken_at : (s t : Bool) → eqb own.number 0 ≡ s → leb own.bytes left ≡ t → taken_by (cond s (cond t own (no_size area_too_small)) own) ≤ left
  unfolding taken_by
  taken_at true true e f = rw e (leb-true own.bytes left f)
  taken_at true false e f = omega arith
  taken_at false t e f = rw e (omega arith)

  taken-most : taken_by (answer_with left own) ≤ left
  unfolding answer_with
  taken-most = taken_at (eqb own.number 0) (leb own.bytes left) refl refl

pub none-taken : (answer : ListSize) → (answer.number ≡ 0 → ⊥) → taken_by answer ≡ 0
unfolding taken_by
none-taken answer h = rw (ne_eqb answer.number 0 h) refl

-- ---- disks in order
used : (left : ℕ) (disks : List ListSize) → total taken_by (answers left disks) + left_after left disks ≡ left
unfolding answers left_after total
used left [] = omega arith
used left (own ∷ rest) =
    let h = taken-most left own in
    let r = used (left - taken_by (answer_with left own)) rest in
    omega arith

lengths-at : (t : Bool) (bytes : ℕ) (lengths : List ℕ) → cond t bytes 0 + total (λ (n : ℕ). n) lengths ≡ total (λ (n : ℕ). n) (cond t (bytes ∷ lengths) lengths)
unfolding total
lengths-at true bytes lengths = refl
lengths-at false bytes lengths = omega arith

lengths-total : (given : List ListSize) → total taken_by given ≡ admitted_bytes given
unfolding total taken_by admitted_lengths
lengths-total [] = refl
lengths-total (a ∷ rest) =
    ap (λ (n : ℕ). taken_by a + n) (lengths-total rest) ∙ lengths-at (eqb a.number 0) a.bytes (admitted_lengths rest)

one_each : (left : ℕ) (disks : List ListSize) → length (answers left disks) ≡ length disks
unfolding answers
one_each left [] = refl
one_each left (own ∷ rest) = ap suc (one_each (left - taken_by (answer_with left own)) rest)

-- area, admitted lists and what is left
module _ (area : ℕ) (disks : List ListSize) where
  pub all-used : admitted_bytes (answers area disks) + left_after area disks ≡ area
  all-used = ap (λ (n : ℕ). n + left_after area disks) (sym (lengths-total (answers area disks))) ∙ used area disks

  pub left_is : left_after area disks ≡ area - admitted_bytes (answers area disks)
  left_is = let u = all-used in omega arith

  -- THE ADMITTED LISTS FIT THE AREA
  pub shares : Shares area disks
  shares = record { within = let u = all-used in omega arith; left = left_is; each = one_each area disks }

-- ---- in two parts
answers-append : (left : ℕ) (before behind : List ListSize) → answers left (before ++ behind) ≡ answers left before ++ answers (left_after left before) behind
unfolding answers left_after
answers-append left [] behind = refl
answers-append left (own ∷ before) behind =
    ap (λ (rest : List ListSize). answer_with left own ∷ rest) (answers-append (left - taken_by (answer_with left own)) before behind)

left-append : (left : ℕ) (before behind : List ListSize) → left_after left (before ++ behind) ≡ left_after (left_after left before) behind
unfolding left_after
left-append left [] behind = refl
left-append left (own ∷ before) behind = left-append (left - taken_by (answer_with left own)) before behind

module _ (area : ℕ) (before : List ListSize) (own : ListSize) where
  abbrev rest : ℕ
  rest = left_after area before

  abbrev answer : ListSize
  answer = answer_behind area before own

  left_behind : left_after area (before ++ (own ∷ [])) ≡ rest - taken_by answer
  unfolding left_after
  left_behind = left-append area before (own ∷ [])

  -- the disk and those behind it
  behind-is : (behind : List ListSize) → answers area (before ++ (own ∷ behind)) ≡ answers area before ++ (answer ∷ answers (rest - taken_by answer) behind)
  unfolding answers
  behind-is behind = answers-append area before (own ∷ behind)

  unchanged : (answer.number ≡ 0 → ⊥) → rest - taken_by answer ≡ rest
  unchanged h = let z = none-taken answer h in omega arith

  -- A DISK'S ANSWER, BY WHAT IS LEFT
  pub placed : (behind : List ListSize) → Placed area before own behind
  placed behind =
      let u = all-used area before in
      record {
        place = behind-is behind ∙ ap (λ (n : ℕ). answers area before ++ (answer ∷ answers n behind)) (sym left_behind);
        refused = λ h. own-refusal rest own h;
        admitted = λ z h. own-size rest own z (omega arith);
        too_long = λ z h. no_room rest own z (omega arith);
        takes-nothing = λ h. behind-is behind ∙ ap (λ (n : ℕ). answers area before ++ (answer ∷ answers n behind)) (unchanged h);
      }

-- ---- two cabinets
number-at : (t : Bool) (own : ListSize) → own.number ≡ 0 → (cond t own (no_size area_too_small)).number ≡ cond t 0 area_too_small
number-at true own z = z
number-at false own z = refl

number_by : (left : ℕ) (own : ListSize) → own.number ≡ 0 → (answer_with left own).number ≡ cond (leb own.bytes left) 0 area_too_small
unfolding answer_with
number_by left own z = rw (eq-eqb own.number 0 z) (number-at (leb own.bytes left) own z)

-- 40 BY LENGTHS AND AREA ALONE
pub by_lengths : ByLengths
by_lengths area before others own other e z w b =
    let l : left_after area before ≡ left_after area others =
    left_is area before ∙ ap (λ (ns : List ℕ). area - total (λ (n : ℕ). n) ns) e ∙ sym (left_is area others)
    in
    number_by (left_after area before) own z
    ∙ ap₂ (λ (n m : ℕ). cond (leb n m) 0 area_too_small) b l
    ∙ sym (number_by (left_after area others) other w)
