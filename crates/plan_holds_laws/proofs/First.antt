-- The first state of a planned group: a plan's free records are maximal runs, at most two.
-- Assumes nothing.
use mathlib.Core.Path.{◌≡◌, refl, sym, ap, ◌∙◌}
use mathlib.Core.Bool.{Bool, true, false, cond}
use mathlib.Core.List.{List, [], ◌∷◌, ◌++◌}
use Prim.Native.Nat.{ℕ, ◌+◌, ◌-◌, ◌≤◌, ◌<◌, ◌^◌}
use native.Mathlib.Nat.{add-zero}
use native.Mathlib.Omega.{arith}
use borrow.Author.Tests.{ltb-true, eq-eqb}
use lib.Dec.{ltb}
use lib.ListN.{length}
use Rattle.seqs.specs.Runs.{valid, weigh}
use Rattle.seqs.proofs.Laws.{choose-elim}
use Rattle.btree.specs.declared.records.AllocRec.{AllocRec}
use Rattle.geometry.specs.declared.Geometry.{Geometry}
use Rattle.geometry_places.proofs.Refused.{a-group}
use Rattle.plan_free.specs.declared.FreeList.{FreeList}
use Rattle.plan_free.specs.Free.{free_of, pack_free}
use Rattle.plan_free.proofs.Uses.{weigh_free, free-packed}
use Rattle.plan_site.specs.declared.Site.{Site}
use Rattle.plan_site.specs.Sites.{site_of, SoundSite}
use Rattle.plan_site.proofs.Sites.{site-sound}
use Rattle.plan.specs.declared.AgPlan.{AgPlan}
use Rattle.plan.specs.declared.Planned.{Planned}
use Rattle.plan.specs.Plan.{planned}
use Rattle.plan_same.proofs.Planners.{planned-there}
use Rattle.plan_closed.specs.Closed.{has_root_chunk, list_at, closed_free, list_short, closed_ag_plan, closed_plan}
use Rattle.plan_closed.proofs.Planning.{closed-plan}
use Rattle.plan_holds.specs.declared.Holds.{Holds}
use Rattle.plan_holds.specs.declared.Held.{Held}
use Rattle.plan_holds.specs.Holding.{pack_held, held_as, started}
use Rattle.plan_holds_laws.specs.Calls.{Separate, first_of}
use Rattle.plan_holds_laws.proofs.Kept.{Kept}

-- ---- the runs of a plan
pub record Few (rs : List AllocRec) : Type 0 where
  pub separate : Separate 0 rs
  pub count : length rs ≤ 2

gap-few-at : (a b : ℕ) → b < 2 ^ 32 → (x : Bool) → ltb a b ≡ x → Few (cond x (record { start = a; count = b - a } ∷ []) [])
gap-few-at a b k true e = let u : a < b = ltb-true _ _ e in record { separate = (omega arith, omega arith, omega arith, tt); count = omega arith }
gap-few-at a b k false e = record { separate = tt; count = omega arith }

gaps-few-at : (a b c d : ℕ) → b < c → b < 2 ^ 32 → d < 2 ^ 32 → (x y : Bool) → ltb a b ≡ x → ltb c d ≡ y
    → Few (cond x (record { start = a; count = b - a } ∷ []) [] ++ cond y (record { start = c; count = d - c } ∷ []) [])
gaps-few-at a b c d h k m true true e f =
    let u : a < b = ltb-true _ _ e in
    let v : c < d = ltb-true _ _ f in
    record { separate = (omega arith, omega arith, omega arith, (omega arith, omega arith, omega arith, tt)); count = omega arith }
gaps-few-at a b c d h k m true false e f = let u : a < b = ltb-true _ _ e in record { separate = (omega arith, omega arith, omega arith, tt); count = omega arith }
gaps-few-at a b c d h k m false true e f = let v : c < d = ltb-true _ _ f in record { separate = (omega arith, omega arith, omega arith, tt); count = omega arith }
gaps-few-at a b c d h k m false false e f = record { separate = tt; count = omega arith }

closed-few : (s : Site) → SoundSite s → Few (closed_free s)
unfolding closed_free
closed-few s ok =
    let l = ok.length_most in
    let c = ok.chunk-ends in
    let d = ok.chunk-least in
    choose-elim Few (has_root_chunk s) _ _
    (λ t. gaps-few-at (s.head + s.need) s.chunk_at (s.chunk_at + s.chunk_blocks) s.length (omega arith) (omega arith) (omega arith) _ _ refl refl)
    (λ t. gap-few-at (list_at s + s.need) s.length (omega arith) _ refl)

closed_is : (s : Site) → (closed_plan s).number ≡ 0 → (closed_plan s).plan ≡ closed_ag_plan s
unfolding closed_plan
closed_is s = choose-elim (λ (p : Planned). p.number ≡ 0 → p.plan ≡ closed_ag_plan s) (list_short s) _ _ (λ t e. absurd (omega arith)) (λ t e. refl)

module _ (g : Geometry) (l : length g.label ≡ 12) (k : ℕ) (q : (planned g k).number ≡ 0) where
  pub plan-free : (planned g k).plan.free ≡ pack_free (closed_free (site_of g k))
  plan-free =
      let a = a-group g k (planned-there g k q) in
      let e = closed-plan g l a.0 k a.1 in
      let n = ap (λ (p : Planned). p.number) (sym e) ∙ q in
      ap (λ (p : Planned). p.plan.free) e ∙ ap (λ (p : AgPlan). p.free) (closed_is (site_of g k) n)

  pub plan-runs : free_of (planned g k).plan.free ≡ closed_free (site_of g k)
  plan-runs = ap (λ (f : FreeList). free_of f) plan-free ∙ free-packed (closed_free (site_of g k))

  plan-few : Few (free_of (planned g k).plan.free)
  plan-few = rw plan-runs (closed-few (site_of g k) (site-sound g k l (a-group g k (planned-there g k q)).0))

  pub plan-separate : Separate 0 (free_of (planned g k).plan.free)
  plan-separate = plan-few.separate

  abbrev pub at_first : Holds
  at_first = record { agno = k; free = (planned g k).plan.free; held = pack_held [] }

  pub started-is : started g k ≡ held_as at_first
  unfolding started
  started-is = rw (eq-eqb _ 0 q)

  pub first-is : first_of g k ≡ at_first
  first-is = ap (λ (t : Held). t.state) started-is

  pub first-kept : Kept g k [] at_first
  unfolding weigh valid
  first-kept =
      let c = plan-few.count in
      record {
        group = refl;
        held = refl;
        sorted = refl;
        few = omega arith;
        separate = plan-separate;
        slots = plan-free ∙ ap pack_free (sym plan-runs);
        count = omega arith;
        weighs = λ f add. sym (add-zero (weigh_free f (free_of (planned g k).plan.free)));
      }
