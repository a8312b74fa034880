-- The test of a state passes exactly those that the runs they hold, the plan and the blocks fix.
-- Assumes nothing.
use mathlib.Core.Path.{◌≡◌, refl, sym, subst, ap, ◌∙◌}
use mathlib.Core.Bool.{Bool, true, false}
use mathlib.Core.List.{List, [], ◌∷◌}
use mathlib.Core.Logic.{◌↔◌}
use Prim.Native.Nat.{ℕ, ◌≤◌}
use native.Mathlib.Omega.{arith}
use borrow.Author.Tests.{le-leb, eq-eqb, eqb-true}
use lib.Dec.{leb, eqb}
use lib.ListN.{length, length-take}
use Rattle.arith.proofs.Both.{left-true, right-true}
use Rattle.seqs.specs.Lists.{fold}
use Rattle.seqs.specs.Runs.{valid, has}
use Rattle.seqs.proofs.Laws.{choose-elim}
use Rattle.seqs.proofs.Weights.{additive-has}
use Rattle.btree.specs.declared.records.AllocRec.{AllocRec}
use Rattle.geometry.specs.declared.Geometry.{Geometry}
use Rattle.plan_free.specs.Free.{free_of, pack_free, alloc_start, alloc_count}
use Rattle.plan_extents.specs.Takes.{holding}
use Rattle.plan.specs.Plan.{planned}
use Rattle.plan_same.specs.Same.{same_alloc, same_free}
use Rattle.plan_same.proofs.Planners.{Tells, lists, allocs, frees}
use Rattle.plan_holds.specs.declared.HeldList.{HeldList}
use Rattle.plan_holds.specs.declared.Holds.{Holds}
use Rattle.plan_holds.specs.declared.Held.{Held}
use Rattle.plan_holds.specs.Holding.{held_of, pack_held, held_as, started, held_next, replayed, same_held, same_state, is_state}
use Rattle.plan_holds_laws.specs.Calls.{State, plan_free}
use Rattle.plan_holds_laws.proofs.Separated.{separate-same}
use Rattle.plan_holds_laws.proofs.Kept.{Kept, kept-runs, kept-len, carried, Some, some-step, replay-on}
use Rattle.plan_holds_laws.proofs.First.{plan-separate, at_first, started-is, first-kept}

-- ---- the test of two states
held-equal : (a b : HeldList) → same_held a b ≡ true → a ≡ b
unfolding same_held
held-equal a b e = rw (eqb-true a.len b.len (left-true _ _ e), (lists same_alloc allocs).equal a.recs b.recs (right-true (eqb a.len b.len) _ e)) refl

held-itself : (a : HeldList) → same_held a a ≡ true
unfolding same_held
held-itself a = rw (eq-eqb a.len a.len refl, (lists same_alloc allocs).itself a.recs) refl

states-equal : (a b : Holds) → same_state a b ≡ true → a ≡ b
unfolding same_state
states-equal a b e =
    let r = right-true (eqb a.agno b.agno) _ e in
    rw (eqb-true a.agno b.agno (left-true _ _ e), frees.equal a.free b.free (left-true _ _ r), held-equal a.held b.held (right-true (same_free a.free b.free) _ r)) refl

state-itself : (a : Holds) → same_state a a ≡ true
unfolding same_state
state-itself a = rw (eq-eqb a.agno a.agno refl, frees.itself a.free, held-itself a.held) refl

-- ---- a replay that isn't refused
started-number : (g : Geometry) (k : ℕ) → (started g k).number ≡ 0 → (planned g k).number ≡ 0
unfolding started
started-number g k =
    choose-elim (λ (t : Held). t.number ≡ 0 → (planned g k).number ≡ 0) (eqb (planned g k).number 0) _ _ (λ t e. eqb-true _ 0 t) (λ t e. e)

-- a refusal stays
refused-at : (X : Type 0) (t : Held) (r : AllocRec) (x : Bool) → eqb t.number 0 ≡ x → (t.number ≡ 0 → X) → (held_next t r).number ≡ 0 → X
unfolding held_next
refused-at X t r true q base e = base (eqb-true _ 0 q)
refused-at X t r false q base e = base (rw q at e)

refused-stays : (X : Type 0) (rs : List AllocRec) (t : Held) → (t.number ≡ 0 → X) → (fold held_next t rs).number ≡ 0 → X
unfolding fold
refused-stays X [] t base e = base e
refused-stays X (r ∷ rs) t base e = refused-stays X rs (held_next t r) (refused-at X t r (eqb t.number 0) refl base) e

pub replayed-planned : (g : Geometry) (k : ℕ) (rs : List AllocRec) → (replayed g k rs).number ≡ 0 → (planned g k).number ≡ 0
unfolding replayed
replayed-planned g k rs e = refused-stays ((planned g k).number ≡ 0) rs (started g k) (started-number g k) e

-- ---- the runs that a state keeps: some list of them
pub record Keeps (g : Geometry) (k : ℕ) (s : Holds) : Type 0 where
  pub planned : (planned g k).number ≡ 0
  pub runs : List AllocRec
  pub kept : Kept g k runs s

module _ (g : Geometry) (l : length g.label ≡ 12) where
  pub replayed-keeps : (k : ℕ) (rs : List AllocRec) → (replayed g k rs).number ≡ 0 → Keeps g k (replayed g k rs).state
  unfolding replayed
  replayed-keeps k rs e =
      let q = replayed-planned g k rs e in
      let d = plan-separate g l k q in
      let r = carried g k d (Some g k d) (some-step g k d) rs (started g k) (λ n. rw (started-is g l k q) (record { runs = []; kept = first-kept g l k q })) e in
      record { planned = q; runs = r.runs; kept = r.kept }

  -- a sorted list of at most eight runs of plan-free blocks, held from the start
  pub replay-held : (k : ℕ) → (planned g k).number ≡ 0 → (hs : List AllocRec) → valid alloc_start alloc_count 0 hs ≡ true → length hs ≤ 8 → ((b : ℕ) → holding b hs ≤ plan_free g k b)
      → (s : Holds) × ((replayed g k hs ≡ held_as s) × Kept g k hs s)
  unfolding replayed
  replay-held k q hs v n w =
      let r = replay-on g k (plan-separate g l k q) hs [] (at_first g l k q) (first-kept g l k q) v n w in
      (r.left, (rw (started-is g l k q) r.same, r.kept))

  -- ---- what the test passes
  pub passed-keeps : (s : Holds) → is_state g s ≡ true → Keeps g s.agno s
  unfolding is_state
  passed-keeps s e =
      let r = right-true (leb s.held.len 8) _ e in
      let n = eqb-true _ 0 (left-true _ _ r) in
      let m = states-equal (replayed g s.agno (held_of s.held)).state s (right-true (eqb (replayed g s.agno (held_of s.held)).number 0) _ r) in
      let p = replayed-keeps s.agno (held_of s.held) n in
      record { planned = p.planned; runs = p.runs; kept = subst (λ (t : Holds). Kept g s.agno p.runs t) m p.kept }

  keeps-own : (s : Holds) → Keeps g s.agno s → State g s
  keeps-own s p =
      let y = p.kept in
      let hs = p.runs in
      let e = kept-runs g s.agno hs s y in
      let n = kept-len g s.agno hs s y in
      let f = y.few in
      let h : (b : ℕ) → holding b (held_of s.held) ≡ holding b hs = λ b. ap (holding b) e in
      record {
        accepted = p.planned;
        few = omega arith;
        sorted = ap (valid alloc_start alloc_count 0) e ∙ y.sorted;
        inside = λ b. let u = y.weighs (has b) (additive-has b) in let i = h b in omega arith;
        free = record { separate = y.separate; covers = λ b. let u = y.weighs (has b) (additive-has b) in let i = h b in omega arith };
        held-slots = y.held ∙ ap pack_held (sym e);
        free-slots = y.slots;
      }

  pub keeps-state : (k : ℕ) (s : Holds) → Keeps g k s → State g s
  keeps-state k s p = keeps-own s (subst (λ (i : ℕ). Keeps g i s) (sym p.kept.group) p)

  pub state-passes : (s : Holds) → State g s → is_state g s ≡ true
  unfolding is_state
  state-passes s p =
      let hs = held_of s.held in
      let f = p.few in
      let n : length hs ≤ 8 = simp length-take (omega arith) in
      let r = replay-held s.agno p.accepted hs p.sorted n p.inside in
      let t = r.0 in
      let y = r.1.1 in
      let m : free_of t.free ≡ free_of s.free =
      separate-same 0 0 (free_of t.free) (free_of s.free) y.separate p.free.separate
      (λ b. let u = y.weighs (has b) (additive-has b) in let v = p.free.covers b in let i = p.inside b in omega arith) in
      let z : t ≡ s = same_parts t s y.group (y.slots ∙ ap pack_free m ∙ sym p.free-slots) (y.held ∙ sym p.held-slots) in
      rw (le-leb s.held.len 8 f, r.1.0, z, state-itself s) refl
    where
      same_parts : (s t : Holds) → s.agno ≡ t.agno → s.free ≡ t.free → s.held ≡ t.held → s ≡ t
      same_parts s t a b c = rw (a, b, c) refl

  -- 31: THE TEST PASSES EXACTLY THE STATES IN BLOCKS
  pub is-state-exactly : (s : Holds) → (is_state g s ≡ true) ↔ State g s
  is-state-exactly s = (λ e. keeps-state s.agno s (passed-keeps s e), state-passes s)
