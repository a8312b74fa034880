-- The head that is made for a group is the one that a run writes or leaves there, and the number of a refused one.
-- Assumes nothing.
use mathlib.Core.Path.{◌≡◌, refl, ap, sym, ◌∙◌}
use mathlib.Core.Bool.{Bool, true, false, cond}
use mathlib.Core.List.{List}
use Prim.Native.Nat.{ℕ, ◌<◌, ◌≤◌}
use native.Mathlib.Omega.{arith}
use borrow.Author.Tests.{eq-eqb, ne_eqb, eqb-true, ltb-true, lt-ltb, le-ltb, lt-leb}
use lib.Dec.{eqb, ltb}
use lib.ListN.{length}
use Rattle.refusals.specs.Numbers.{wrong_length, no_place}
use Rattle.arith.specs.Choice.{when}
use Rattle.seqs.proofs.Laws.{choose-elim}
use Rattle.crc.specs.Right.{already_right}
use Rattle.structs.specs.Written.{require}
use Rattle.structs.specs.Encoded.{Encoded}
use Rattle.structs.proofs.Written.{passed, written_in}
use Rattle.geometry.specs.declared.Geometry.{Geometry}
use Rattle.plan.specs.Plan.{planned}
use Rattle.plan_totals.specs.Totals.{plans_number}
use Rattle.head_bytes.specs.Head.{head_bytes, head_length, group_head_number}
use Rattle.head_bytes.specs.Places.{head_places}
use Rattle.head_bytes.proofs.Ready.{group-accepted}
use Rattle.sb.specs.declared.SbState.{SbState}
use Rattle.sb_states.specs.declared.Stated.{Stated}
use Rattle.sb_states.specs.States.{state_of, finished_state, state_number, stated_as, stated, finished_answer}
use Rattle.list_spec.specs.Listing.{head_written, head_finished, head_left}
use Rattle.list_spec.proofs.Whole.{group-planned}
use Rattle.group_bytes.specs.Answers.{head_refusal, left_state}
use Rattle.group_bytes.proofs.Accepted.{or-second, or-zero}

-- ---- the number

module _ (g : Geometry) (k n : ℕ) where
  pub head-zero : head_refusal g k n ≡ 0 → (plans_number g ≡ 0) × (n ≡ head_length g) × (k < g.agcount)
  unfolding head_refusal
  head-zero z =
      let o = or-zero (plans_number g) _ z in
      let p = passed wrong_length (require no_place (ltb k g.agcount) 0) (eqb n (head_length g)) (omega arith) o.1 in
      let q = passed no_place 0 (ltb k g.agcount) (omega arith) p.1 in
      (o.0, eqb-true n (head_length g) p.0, ltb-true k g.agcount q.0)

  module _ (p : plans_number g ≡ 0) where
    pub other_length : (n ≡ head_length g → ⊥) → 27 ≡ head_refusal g k n
    unfolding head_refusal
    other_length h = or-second (plans_number g) _ 27 p (rw (ne_eqb n (head_length g) h) refl)

    pub no-group : n ≡ head_length g → g.agcount ≤ k → no_place ≡ head_refusal g k n
    unfolding head_refusal
    no-group e h = or-second (plans_number g) _ no_place p (rw (eq-eqb n (head_length g) e, le-ltb k g.agcount h) refl)

    pub head-fits : n ≡ head_length g → k < g.agcount → 0 ≡ head_refusal g k n
    unfolding head_refusal
    head-fits e h = or-second (plans_number g) _ 0 p (rw (eq-eqb n (head_length g) e, lt-ltb k g.agcount h) refl)

-- ---- the number of a state

number_is : (n : ℕ) (s : SbState) → (stated_as n s).number ≡ n
number_is n s = choose-elim (λ (x : Stated). x.number ≡ n) (eqb n 0) _ _ (λ t. sym (eqb-true n 0 t)) (λ t. refl)

same_at : (n : ℕ) → cond (eqb n 0) 0 n ≡ n
same_at n = choose-elim (λ (x : ℕ). x ≡ n) (eqb n 0) _ _ (λ t. sym (eqb-true n 0 t)) (λ t. refl)

module _ (g : Geometry) (uuid : List ℕ) (k : ℕ) (h : k < g.agcount) where
  -- of a group that is there it is the number of all plans
  pub stated-number : (stated g uuid k).number ≡ plans_number g
  unfolding stated state_number when
  stated-number = number_is (state_number g k) (state_of g uuid k) ∙ rw (lt-leb g.agcount k h) (same_at (plans_number g))

  pub left-number : (left_state g uuid k).number ≡ plans_number g
  unfolding left_state finished_answer
  left-number =
      choose-elim (λ (x : Stated). x.number ≡ plans_number g) (eqb k 0) _ _
      (λ t. number_is (plans_number g) (finished_state g uuid)) (λ t. stated-number)

-- ---- the bytes

module _ (g : Geometry) (uuid : List ℕ) (k : ℕ) (xs : List ℕ) (z : head_refusal g k (length xs) ≡ 0) where
  -- with any state
  pub filled : {r : ℕ} {right : Bool} (s : SbState) (ys : List ℕ) → length g.label ≡ 12
      → Encoded (group_head_number g k (length xs)) (head_places g) (head_bytes g (planned g k).plan uuid s) xs r right ys
      → (right ≡ already_right (head_places g) xs (head_bytes g (planned g k).plan uuid s)) × (ys ≡ head_bytes g (planned g k).plan uuid s)
  filled s ys l w =
      let h = head-zero g k (length xs) z in
      let n = group-accepted g k (length xs) (group-planned g l h.0 k h.2) h.1 in
      (w.right_is ∙ rw n refl, written_in w.written n)

  state-there : (stated g uuid k).state ≡ state_of g uuid k
  unfolding stated state_number when
  state-there = let h = head-zero g k (length xs) z in rw (h.0, lt-leb g.agcount k h.2) refl

  -- WHAT IS MADE IS WHAT IS WRITTEN
  pub written-made : (s : Stated) (ys : List ℕ) → s ≡ stated g uuid k → ys ≡ head_bytes g (planned g k).plan uuid s.state → ys ≡ head_written g uuid k
  unfolding head_written
  written-made s ys e m = m ∙ ap (λ (x : SbState). head_bytes g (planned g k).plan uuid x) (ap (λ (x : Stated). x.state) e ∙ state-there)

  finished-there : (finished_answer g uuid).state ≡ finished_state g uuid
  unfolding finished_answer
  finished-there = rw (head-zero g k (length xs) z).0 refl

  -- group 0's with the finished superblock, or another's
  left_at : (s : Stated) (ys : List ℕ) (t : Bool) → eqb k 0 ≡ t → s ≡ cond t (finished_answer g uuid) (stated g uuid k)
      → ys ≡ head_bytes g (planned g k).plan uuid s.state → ys ≡ cond t (head_finished g uuid) (head_written g uuid k)
  unfolding head_finished
  left_at s ys true e b m = m ∙ rw (eqb-true k 0 e, b, finished-there) refl
  left_at s ys false e b m = written-made s ys b m

  -- WHAT IS MADE IS WHAT IS LEFT
  pub left-made : (s : Stated) (ys : List ℕ) → s ≡ left_state g uuid k → ys ≡ head_bytes g (planned g k).plan uuid s.state → ys ≡ head_left g uuid k
  unfolding head_left left_state
  left-made s ys e m = left_at s ys (eqb k 0) refl e m
