-- Disks that are handed in one after the other are answered as the call says.
-- Assumes nothing.
use mathlib.Core.Path.{◌≡◌, refl, sym, ap, ap₂, ◌∙◌}
use mathlib.Core.Bool.{Bool, true, false, cond}
use mathlib.Core.List.{List, [], ◌∷◌, map}
use Prim.Native.Nat.{ℕ, suc, ◌-◌, ◌<◌, ◌≤◌}
use native.Mathlib.Omega.{arith}
use borrow.Author.Tests.{eq-eqb, ne_eqb, lt-ltb, le-ltb}
use lib.Dec.{ltb}
use lib.ListN.{length}
use Rattle.refusals.specs.Numbers.{too_many_disks}
use Rattle.arith.specs.Choice.{when}
use Rattle.list_size.specs.declared.ListSize.{ListSize}
use Rattle.list_size.specs.Sizes.{no_size, input_size}
use Rattle.list_cabinet.specs.declared.Cabinet.{Cabinet as State}
use Rattle.list_cabinet.specs.declared.Entered.{Entered as Answer}
use Rattle.list_cabinet.specs.Cabinet.{answer_with, taken_by, answers, left_after, most_disks, not_shared, shared_by, shared}
use Rattle.list_cabinet.specs.Entering.{cabinet_opened, cabinet_number, answering, entered_by, entered, entered_all, closed_at, InOrder}

-- ---- one disk, by the code's steps
module _ (c : State) (input : List ℕ) where
  pub turned-away : (n : ℕ) (s : ListSize) → n ≡ cabinet_number c → (n ≡ 0 → ⊥) → s ≡ no_size n → answering s c ≡ entered c input
  unfolding entered
  turned-away n s e h f = rw (← e, ne_eqb n 0 h, f) refl

  pub looked-at : (n : ℕ) → n ≡ cabinet_number c → n ≡ 0 → entered c input ≡ entered_by c (input_size input)
  unfolding entered
  looked-at n e z = rw (eq-eqb (cabinet_number c) 0 (sym e ∙ z)) refl

-- ---- a cabinet that wasn't refused, with m disks to come
abbrev at : ℕ → ℕ → State
at left m = record { number = 0; left = left; coming = m }

one_more : (left m : ℕ) (input : List ℕ) → entered (at left (suc m)) input
    ≡ answering (answer_with left (input_size input)) (at (left - taken_by (answer_with left (input_size input))) m)
unfolding when
one_more left m input =
    let e : suc m - 1 ≡ m = omega arith in
    looked-at (at left (suc m)) input 0 (rw (ne_eqb (suc m) 0 (λ z. omega arith)) refl) refl
    ∙ ap (λ (k : ℕ). answering (answer_with left (input_size input)) (at (left - taken_by (answer_with left (input_size input))) k)) e

all-answers : (left : ℕ) (inputs : List (List ℕ)) → entered_all (at left (length inputs)) inputs ≡ answers left (map input_size inputs)
unfolding entered_all answers
all-answers left [] = refl
all-answers left (input ∷ inputs) =
    ap₂ (λ (a : ListSize) (rest : List ListSize). a ∷ rest)
    (ap (λ (x : Answer). x.size) (one_more left (length inputs) input))
    (ap (λ (x : Answer). entered_all x.cabinet inputs) (one_more left (length inputs) input) ∙ all-answers (left - taken_by (answer_with left (input_size input))) inputs)

all_left : (left : ℕ) (inputs : List (List ℕ)) → (closed_at (at left (length inputs)) inputs).left ≡ left_after left (map input_size inputs)
unfolding closed_at left_after
all_left left [] = refl
all_left left (input ∷ inputs) =
    ap (λ (x : Answer). (closed_at x.cabinet inputs).left) (one_more left (length inputs) input) ∙ all_left (left - taken_by (answer_with left (input_size input))) inputs

-- ---- the whole call
opened-at : (n area : ℕ) → n ≤ most_disks → cabinet_opened n area ≡ at area n
unfolding when
opened-at n area h = rw (le-ltb most_disks n h) refl

refused-at : (n area : ℕ) (input : List ℕ) → most_disks < n → entered (cabinet_opened n area) input ≡ answering (no_size too_many_disks) (cabinet_opened n area)
unfolding when
refused-at n area input h =
    let t = lt-ltb most_disks n h in
    let z = ne_eqb n 0 (λ e. omega arith) in
    sym (turned-away (cabinet_opened n area) input too_many_disks (no_size too_many_disks) (rw (z, t) refl) (λ e. omega arith) refl)

number-at : (area : ℕ) (disks : List ListSize) (t : Bool) → when t too_many_disks 0 ≡ (cond t (not_shared area) (shared_by area disks)).number
unfolding when
number-at area disks true = refl
number-at area disks false = refl

-- ONE AFTER THE OTHER IS ALL AT ONCE
pub in_order : (area : ℕ) (inputs : List (List ℕ)) → InOrder area inputs
unfolding shared
in_order area inputs =
    let n = length inputs in
    record {
      number = number-at area (map input_size inputs) (ltb most_disks n);
      answers = λ h. rw (opened-at n area h, le-ltb most_disks n h) (all-answers area inputs);
      left = λ h. rw (opened-at n area h, le-ltb most_disks n h) (all_left area inputs);
      too_many = λ h input. refused-at n area input h;
    }
