-- Which number `hold` and `release` give, exactly where.
-- Assumes nothing.
use mathlib.Core.Path.{◌≡◌, refl, sym, ap, ◌∙◌}
use mathlib.Core.Bool.{Bool, true, false, ◌&&◌, cond}
use mathlib.Core.List.{List, [], ◌∷◌}
use mathlib.Core.Logic.{◌↔◌}
use Prim.Native.Nat.{ℕ, ◌+◌, ◌≤◌, ◌<◌}
use native.Mathlib.Omega.{arith}
use borrow.Author.Tests.{lt-ltb, eq-eqb, ltb-true, ltb-false, eqb-true}
use lib.Dec.{ltb, eqb}
use lib.ListN.{length}
use Rattle.refusals.specs.Numbers.{no_answer, not_held, not_holdable, too_many_records}
use Rattle.arith.proofs.Both.{left-true, right-true, both_true}
use Rattle.seqs.specs.Lists.{total}
use Rattle.seqs.proofs.Laws.{never}
use Rattle.btree.specs.declared.records.AllocRec.{AllocRec}
use Rattle.geometry.specs.declared.Geometry.{Geometry}
use Rattle.plan_free.specs.declared.Taken.{Taken}
use Rattle.plan_free.specs.Free.{taken}
use Rattle.plan.specs.Plan.{planned}
use Rattle.plan_holds.specs.declared.Holds.{Holds}
use Rattle.plan_holds.specs.declared.Held.{Held}
use Rattle.plan_holds.specs.Holding.{held_of, is_run, any_run, drop_run, hold_refused, held_as, held_with, replayed, is_state, hold_def, release_def}
use Rattle.plan_holds_laws.specs.Calls.{times, Reached, WhollyFree, HoldNumbers, ReleaseNumbers}
use Rattle.plan_holds_laws.proofs.Kept.{Kept, with_run, kept-len, kept-runs, can-take, taken-had}
use Rattle.plan_holds_laws.proofs.First.{plan-separate}
use Rattle.plan_holds_laws.proofs.Exactly.{passed-keeps}
use Rattle.plan_holds_laws.proofs.Left.{hold-is, release-is, gives_back, passed-reached, reached-passed}

-- ---- the numbers of a choice
held_number : (x y : Bool) (t : Held) → t.number ≡ 0 → (cond x (cond y t (hold_refused too_many_records)) (hold_refused not_holdable)).number ≡ cond x (cond y 0 too_many_records) not_holdable
held_number true true t e = e
held_number true false t e = refl
held_number false y t e = refl

-- w: the run is wholly free; m runs are held
pub record Cases (num m : ℕ) (w : Type 0) : Type 0 where
  pub known : num ≡ no_answer → ⊥
  pub not-holdable : (num ≡ not_holdable) ↔ (w → ⊥)
  pub full : (num ≡ too_many_records) ↔ (w × (m ≡ 8))
  pub held : (num ≡ 0) ↔ (w × (m < 8))

cases-at : (num m : ℕ) (w : Type 0) (x y : Bool) → num ≡ cond x (cond y 0 too_many_records) not_holdable → (x ≡ true → w) → (w → x ≡ true) → ltb m 8 ≡ y → m ≤ 8 → Cases num m w
cases-at num m w true true e f h q k =
    let u : m < 8 = ltb-true _ _ q in
    record {
      known = λ z. omega arith;
      not-holdable = (λ z. absurd (omega arith), λ z. absurd (z (f refl)));
      full = (λ z. absurd (omega arith), λ z. let v = z.1 in absurd (omega arith));
      held = (λ z. (f refl, u), λ z. e);
    }
cases-at num m w true false e f h q k =
    let u : 8 ≤ m = ltb-false _ _ q in
    record {
      known = λ z. omega arith;
      not-holdable = (λ z. absurd (omega arith), λ z. absurd (z (f refl)));
      full = (λ z. (f refl, omega arith), λ z. e);
      held = (λ z. absurd (omega arith), λ z. let v = z.1 in absurd (omega arith));
    }
cases-at num m w false y e f h q k =
    record {
      known = λ z. omega arith;
      not-holdable = (λ z a. never (h a), λ z. e);
      full = (λ z. absurd (omega arith), λ z. never (h z.0));
      held = (λ z. absurd (omega arith), λ z. never (h z.0));
    }

module _ (g : Geometry) (l : length g.label ≡ 12) (s : Holds) (a n : ℕ) where
  -- ---- hold
  kept-cases : (k : ℕ) → (planned g k).number ≡ 0 → (hs : List AllocRec) → Kept g k hs s → Cases (hold_def g s a n).number s.held.len (WhollyFree s a n)
  unfolding held_with
  kept-cases k q hs p =
      let d = plan-separate g l k q in
      let e = kept-len g k hs s p in
      let f = p.few in
      cases-at (hold_def g s a n).number s.held.len (WhollyFree s a n) (ltb 0 n && eqb (taken s.free a n).number 0) (ltb s.held.len 8)
      (ap (λ (t : Held). t.number) (hold-is g l k q hs s p a n) ∙ held_number (ltb 0 n && eqb (taken s.free a n).number 0) (ltb s.held.len 8) (held_as (with_run s a n)) refl)
      (λ t. record { some = ltb-true 0 n (left-true _ _ t); free = taken-had g k d s a n (eqb-true _ 0 (right-true (ltb 0 n) _ t)) })
      (λ w. both_true (ltb 0 n) (eqb (taken s.free a n).number 0) (lt-ltb 0 n w.some) (eq-eqb _ 0 (can-take g k d hs s p a n w.some w.free)))
      refl
      (omega arith)

  reached-cases : Reached g s → Cases (hold_def g s a n).number s.held.len (WhollyFree s a n)
  reached-cases r = let p = passed-keeps g l s (reached-passed g l s r) in kept-cases s.agno p.planned p.runs p.kept

  unknown-hold : is_state g s ≡ false → (hold_def g s a n).number ≡ no_answer
  unfolding hold_def
  unknown-hold e = rw e

  not-reached : (x : Bool) → is_state g s ≡ x → (Reached g s → ⊥) → x ≡ false
  not-reached true e h = absurd (h (passed-reached g l s e))
  not-reached false e h = refl

  -- `hold`: EACH NUMBER EXACTLY WHERE
  pub hold-numbers : HoldNumbers g s a n
  hold-numbers =
      record {
        no-calls = (λ e r. (reached-cases r).known e, λ h. unknown-hold (not-reached (is_state g s) refl h));
        not-holdable = λ r. (reached-cases r).not-holdable;
        full = λ r. (reached-cases r).full;
        held = λ r. (reached-cases r).held;
      }

  -- ---- release
  unknown-release : is_state g s ≡ false → (release_def g s a n).number ≡ no_answer
  unfolding release_def
  unknown-release e = rw e

-- a run is there exactly where it is there some times
any-times-at : (a n m : ℕ) (t u : Bool) → (u ≡ true → 0 < m) → (u ≡ false → m ≡ 0) → (cond t true u ≡ true → 0 < cond t 1 0 + m) × (cond t true u ≡ false → cond t 1 0 + m ≡ 0)
any-times-at a n m true u f h = (λ e. omega arith, λ e. never (sym e))
any-times-at a n m false u f h = (λ e. let v = f e in omega arith, λ e. let v = h e in omega arith)

any-times : (a n : ℕ) (rs : List AllocRec) → (any_run a n rs ≡ true → 0 < times a n rs) × (any_run a n rs ≡ false → times a n rs ≡ 0)
unfolding any_run total
any-times a n [] = (λ e. never e, λ e. refl)
any-times a n (r ∷ rs) = let i = any-times a n rs in any-times-at a n (times a n rs) (is_run a n r) (any_run a n rs) i.0 i.1

pub record GivenCases (num m : ℕ) : Type 0 where
  pub known : num ≡ no_answer → ⊥
  pub not-held : (num ≡ not_held) ↔ (m ≡ 0)
  pub given : (num ≡ 0) ↔ (0 < m)

given-at : (num m : ℕ) (x : Bool) → (x ≡ true → num ≡ 0) → (x ≡ false → num ≡ not_held) → (x ≡ true → 0 < m) → (x ≡ false → m ≡ 0) → GivenCases num m
given-at num m true e f h k =
    let u = e refl in
    let v = h refl in
    record { known = λ z. omega arith; not-held = (λ z. absurd (omega arith), λ z. absurd (omega arith)); given = (λ z. v, λ z. u) }
given-at num m false e f h k =
    let u = f refl in
    let v = k refl in
    record { known = λ z. omega arith; not-held = (λ z. v, λ z. u); given = (λ z. absurd (omega arith), λ z. absurd (omega arith)) }

module _ (g : Geometry) (l : length g.label ≡ 12) (s : Holds) (a n : ℕ) where
  kept-given : (k : ℕ) → (planned g k).number ≡ 0 → (hs : List AllocRec) → Kept g k hs s → GivenCases (release_def g s a n).number (times a n hs)
  kept-given k q hs p =
      let i = any-times a n hs in
      let z = release-is g l k q hs s p a n in
      given-at (release_def g s a n).number (times a n hs) (any_run a n hs)
      (λ t. ap (λ (h : Held). h.number) (z ∙ ap (λ (x : Bool). cond x (replayed g k (drop_run a hs)) (hold_refused not_held)) t ∙ (gives_back g l k q hs s p a n t).1.0))
      (λ t. ap (λ (h : Held). h.number) (z ∙ ap (λ (x : Bool). cond x (replayed g k (drop_run a hs)) (hold_refused not_held)) t))
      i.0
      i.1

  reached-given : Reached g s → GivenCases (release_def g s a n).number (times a n (held_of s.held))
  reached-given r =
      let p = passed-keeps g l s (reached-passed g l s r) in
      rw (kept-runs g s.agno p.runs s p.kept) (kept-given s.agno p.planned p.runs p.kept)

  -- `release`: EACH NUMBER EXACTLY WHERE
  pub release-numbers : ReleaseNumbers g s a n
  release-numbers =
      record {
        no-calls = (λ e r. (reached-given r).known e, λ h. unknown-release g l s a n (not-reached g l s a n (is_state g s) refl h));
        not-held = λ r. (reached-given r).not-held;
        given = λ r. (reached-given r).given;
      }
