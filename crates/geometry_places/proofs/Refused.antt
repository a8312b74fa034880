-- What the numbers of a place say of it.
-- Assumes nothing.
use mathlib.Core.Path.{◌≡◌, refl, ◌∙◌}
use mathlib.Core.Bool.{Bool, true, false, not}
use mathlib.Core.List.{[], ◌∷◌}
use Prim.Native.Nat.{ℕ, ◌≤◌, ◌<◌}
use native.Mathlib.Omega.{arith}
use borrow.Author.Tests.{le-leb, lt-leb, leb-false, le-ltb, lt-ltb, ltb-true, not-false}
use lib.Dec.{leb, ltb}
use Rattle.refusals.specs.Numbers.{no_answer, no_place}
use Rattle.arith.specs.Choice.{when}
use Rattle.arith.proofs.Both.{left-true, right-true}
use Rattle.refusals.specs.Table.{◌if◌}
use Rattle.refusals.proofs.Clear.{passed}
use Rattle.geometry.specs.declared.Geometry.{Geometry}
use Rattle.geometry_answers.specs.Named.{is_answer}
use Rattle.geometry_layout.specs.Places.{group_blocks, is_place}
use Rattle.geometry_places.specs.Answers.{group_refusal, place_refusal, slot_refusal}

module _ (g : Geometry) (k : ℕ) where
  pub group-no-answer : is_answer g ≡ false → group_refusal g k ≡ no_answer
  unfolding group_refusal when
  group-no-answer e = rw e

  pub group-missing : is_answer g ≡ true → g.agcount ≤ k → group_refusal g k ≡ no_place
  unfolding group_refusal when
  group-missing e h = rw (e, le-leb g.agcount k h)

  pub group-there : is_answer g ≡ true → k < g.agcount → group_refusal g k ≡ 0
  unfolding group_refusal when
  group-there e h = rw (e, lt-leb g.agcount k h)

  pub a-group : group_refusal g k ≡ 0 → (is_answer g ≡ true) × (k < g.agcount)
  unfolding group_refusal
  a-group e =
      let c = passed (no_answer if not (is_answer g) ∷ no_place if leb g.agcount k ∷ []) tt e in
      (not-false (is_answer g) c.0, leb-false g.agcount k c.1.0)

  module _ (b : ℕ) where
    pub no_answer_lem : is_answer g ≡ false → place_refusal g k b ≡ no_answer
    unfolding place_refusal when
    no_answer_lem e = rw e

    pub no-group : is_answer g ≡ true → g.agcount ≤ k → place_refusal g k b ≡ no_place
    unfolding place_refusal is_place when
    no-group e h = rw (e, le-ltb k g.agcount h)

    pub no_block : is_answer g ≡ true → k < g.agcount → group_blocks g.dblocks g.agsize g.agcount k ≤ b → place_refusal g k b ≡ no_place
    unfolding place_refusal is_place when
    no_block e h l = rw (e, lt-ltb k g.agcount h, le-ltb b (group_blocks g.dblocks g.agsize g.agcount k) l)

    pub place-there : is_answer g ≡ true → k < g.agcount → b < group_blocks g.dblocks g.agsize g.agcount k → place_refusal g k b ≡ 0
    unfolding place_refusal is_place when
    place-there e h l = rw (e, lt-ltb k g.agcount h, lt-ltb b (group_blocks g.dblocks g.agsize g.agcount k) l)

    -- a place that is not refused is there, in an answer
    pub a-place : place_refusal g k b ≡ 0 → (is_answer g ≡ true) × (k < g.agcount) × (b < group_blocks g.dblocks g.agsize g.agcount k)
    unfolding place_refusal is_place
    a-place e =
        let c = passed (no_answer if not (is_answer g) ∷ no_place if not (is_place g.dblocks g.agsize g.agcount k b) ∷ []) tt e in
        let p = not-false (is_place g.dblocks g.agsize g.agcount k b) c.1.0 in (
          not-false (is_answer g) c.0,
          ltb-true k g.agcount (left-true (ltb k g.agcount) _ p),
          ltb-true b _ (right-true (ltb k g.agcount) _ p),
        )

-- the table with one test more
more : (a p s : Bool) → (when (not a) no_answer (when (not p) no_place 0) ≡ 0 → ⊥) → when (not a) no_answer (when (not p) no_place (when s no_place 0)) ≡ when (not a) no_answer (when (not p) no_place 0)
unfolding when
more true true s h = absurd (h refl)
more true false s h = refl
more false p s h = refl

last : (a p s : Bool) → when (not a) no_answer (when (not p) no_place 0) ≡ 0 → when (not a) no_answer (when (not p) no_place (when s no_place 0)) ≡ when s no_place 0
unfolding when
last true true s h = refl
last true false s h = absurd (omega arith)
last false p s h = absurd (omega arith)

module _ (g : Geometry) (k b slot : ℕ) where
  pub slot-place : (place_refusal g k b ≡ 0 → ⊥) → slot_refusal g k b slot ≡ place_refusal g k b
  unfolding place_refusal slot_refusal
  slot-place h = more (is_answer g) (is_place g.dblocks g.agsize g.agcount k b) (leb g.inopblock slot) h

  slot-last : place_refusal g k b ≡ 0 → slot_refusal g k b slot ≡ when (leb g.inopblock slot) no_place 0
  unfolding place_refusal slot_refusal
  slot-last h = last (is_answer g) (is_place g.dblocks g.agsize g.agcount k b) (leb g.inopblock slot) h

  pub slot-missing : place_refusal g k b ≡ 0 → g.inopblock ≤ slot → slot_refusal g k b slot ≡ no_place
  unfolding when
  slot-missing h l = slot-last h ∙ rw (le-leb g.inopblock slot l)

  pub slot-there : place_refusal g k b ≡ 0 → slot < g.inopblock → slot_refusal g k b slot ≡ 0
  unfolding when
  slot-there h l = slot-last h ∙ rw (lt-leb g.inopblock slot l)

  pub a-slot : slot_refusal g k b slot ≡ 0 → (place_refusal g k b ≡ 0) × (slot < g.inopblock)
  unfolding place_refusal slot_refusal when
  a-slot e =
      let c = passed (no_answer if not (is_answer g) ∷ no_place if not (is_place g.dblocks g.agsize g.agcount k b) ∷ no_place if leb g.inopblock slot ∷ []) tt e in
      (rw (c.0, c.1.0) refl, leb-false g.inopblock slot c.1.1.0)
