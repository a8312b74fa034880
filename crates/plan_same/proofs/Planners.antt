-- A plan passes the test exactly where it is the planner's answer for its group.
-- Assumes nothing.
use Rattle.std.specs.Prelude.{Option, Some, None}
use mathlib.Core.Path.{◌≡◌, refl, sym, subst, ap, ◌∙◌}
use mathlib.Core.Bool.{Bool, true, false, ◌&&◌}
use mathlib.Core.List.{List, [], ◌∷◌}
use Prim.Native.Nat.{ℕ}
use lib.Dec.{T, eqb}
use borrow.Author.Tests.{eqb-true, eq-eqb}
use Rattle.arith.proofs.Both.{left-true, right-true}
use Rattle.geometry.specs.declared.Geometry.{Geometry}
use Rattle.plan.specs.declared.AgPlan.{AgPlan}
use Rattle.plan.specs.declared.Planned.{Planned}
use Rattle.plan.specs.declared.Work.{Work}
use Rattle.plan.specs.Plan.{no_plan, plan_answer, plan_of, list_filled, chunked, planned}
use Rattle.geometry_places.specs.Answers.{group_refusal}
use Rattle.plan_site.specs.declared.Site.{Site}
use Rattle.plan_site.specs.Sites.{site_of}
use Rattle.seqs.proofs.Laws.{choose-elim}
use Rattle.plan_same.specs.Same.{eq_list, same_alloc, same_map, same_chunk, same_free, same_agfl, same_rmap, same_plan, is_plan}

-- ---- the tests say that two values are equal

-- a test that passes equal values only, and every value with itself
pub record Tells {A : Type 0} (same : A → A → Bool) : Type 0 where
  pub equal : (x y : A) → same x y ≡ true → x ≡ y
  pub itself : (x : A) → same x x ≡ true

numbers : Tells eqb
numbers = record { equal = λ x y e. eqb-true x y e; itself = λ x. eq-eqb x x refl }

list-equal : {A : Type 0} (same : A → A → Bool) → Tells same → (xs ys : List A) → eq_list same xs ys ≡ true → xs ≡ ys
unfolding eq_list
list-equal same t [] [] e = refl
list-equal same t [] (y ∷ ys) e = absurd (subst T (sym e) tt)
list-equal same t (x ∷ xs) [] e = absurd (subst T (sym e) tt)
list-equal same t (x ∷ xs) (y ∷ ys) e =
    rw (t.equal x y (left-true (same x y) (eq_list same xs ys) e), list-equal same t xs ys (right-true (same x y) (eq_list same xs ys) e)) refl

list-itself : {A : Type 0} (same : A → A → Bool) → Tells same → (xs : List A) → eq_list same xs xs ≡ true
unfolding eq_list
list-itself same t [] = refl
list-itself same t (x ∷ xs) = rw (t.itself x, list-itself same t xs) refl

pub lists : {A : Type 0} (same : A → A → Bool) → Tells same → Tells (eq_list same)
lists same t = record { equal = list-equal same t; itself = list-itself same t }

pub allocs : Tells same_alloc
unfolding same_alloc
allocs =
    record {
      equal = λ a b e. rw (eqb-true a.start b.start (left-true _ _ e), eqb-true a.count b.count (right-true (eqb a.start b.start) _ e)) refl;
      itself = λ a. rw (eq-eqb a.start a.start refl, eq-eqb a.count a.count refl) refl;
    }

maps : Tells same_map
unfolding same_map
maps =
    record {
      equal = λ a b e.
          let place = left-true (eqb a.start b.start && eqb a.count b.count) _ e in
          let owner = right-true (eqb a.start b.start && eqb a.count b.count) _ e in
          rw (eqb-true a.start b.start (left-true _ _ place), eqb-true a.count b.count (right-true (eqb a.start b.start) _ place), eqb-true a.owner b.owner owner) refl;
      itself = λ a. rw (eq-eqb a.start a.start refl, eq-eqb a.count a.count refl, eq-eqb a.owner a.owner refl) refl;
    }

chunk-equal : (a b : Option ℕ) → same_chunk a b ≡ true → a ≡ b
unfolding same_chunk
chunk-equal None None e = refl
chunk-equal None (Some y) e = absurd (subst T (sym e) tt)
chunk-equal (Some x) None e = absurd (subst T (sym e) tt)
chunk-equal (Some x) (Some y) e = ap (λ (n : ℕ). Some n) (eqb-true x y e)

chunk-itself : (a : Option ℕ) → same_chunk a a ≡ true
unfolding same_chunk
chunk-itself None = refl
chunk-itself (Some x) = eq-eqb x x refl

pub frees : Tells same_free
unfolding same_free
frees =
    record {
      equal = λ a b e. rw (eqb-true a.len b.len (left-true _ _ e), list-equal same_alloc allocs a.recs b.recs (right-true (eqb a.len b.len) _ e)) refl;
      itself = λ a. rw (eq-eqb a.len a.len refl, list-itself same_alloc allocs a.recs) refl;
    }

agfls : Tells same_agfl
unfolding same_agfl
agfls =
    record {
      equal = λ a b e. rw (eqb-true a.len b.len (left-true _ _ e), list-equal eqb numbers a.blocks b.blocks (right-true (eqb a.len b.len) _ e)) refl;
      itself = λ a. rw (eq-eqb a.len a.len refl, list-itself eqb numbers a.blocks) refl;
    }

rmaps : Tells same_rmap
unfolding same_rmap
rmaps =
    record {
      equal = λ a b e. rw (eqb-true a.len b.len (left-true _ _ e), list-equal same_map maps a.recs b.recs (right-true (eqb a.len b.len) _ e)) refl;
      itself = λ a. rw (eq-eqb a.len a.len refl, list-itself same_map maps a.recs) refl;
    }

pub plan-equal : (a b : AgPlan) → same_plan a b ≡ true → a ≡ b
unfolding same_plan
plan-equal a b e =
    let n = left-true (eqb a.agno b.agno && eqb a.length b.length) _ e in
    let r = right-true (eqb a.agno b.agno && eqb a.length b.length) _ e in
    let f = left-true (same_free a.free b.free) _ r in
    let s = right-true (same_free a.free b.free) _ r in
    let l = left-true (same_agfl a.agfl b.agfl) _ s in
    let t = right-true (same_agfl a.agfl b.agfl) _ s in
    let m = left-true (same_rmap a.rmap b.rmap) _ t in
    let k = right-true (same_rmap a.rmap b.rmap) _ t in
    rw (eqb-true a.agno b.agno (left-true _ _ n), eqb-true a.length b.length (right-true (eqb a.agno b.agno) _ n), frees.equal a.free b.free f, agfls.equal a.agfl b.agfl l, rmaps.equal a.rmap b.rmap m, chunk-equal a.chunk b.chunk k) refl

pub plan-itself : (a : AgPlan) → same_plan a a ≡ true
unfolding same_plan
plan-itself a =
    rw (eq-eqb a.agno a.agno refl, eq-eqb a.length a.length refl, frees.itself a.free, agfls.itself a.agfl, rmaps.itself a.rmap, chunk-itself a.chunk) refl

-- ---- the planner's plans

pub is-plan-number : (g : Geometry) (p : AgPlan) → is_plan g p ≡ true → (planned g p.agno).number ≡ 0
unfolding is_plan
is-plan-number g p e = eqb-true (planned g p.agno).number 0 (left-true _ _ e)

pub is-plan-same : (g : Geometry) (p : AgPlan) → is_plan g p ≡ true → p ≡ (planned g p.agno).plan
unfolding is_plan
is-plan-same g p e =
    sym (plan-equal (planned g p.agno).plan p (right-true (eqb (planned g p.agno).number 0) _ e))

-- the planner's plan is of the group that it was asked for
refused-group : (n k : ℕ) → eqb n 0 ≡ false → n ≡ 0 → no_plan.agno ≡ k
refused-group n k t e = absurd (subst T (sym (sym t ∙ eq-eqb n 0 e)) tt)

answer-group : (s : Site) (chunk : Option ℕ) (w : Work) → (plan_answer s chunk w).number ≡ 0 → (plan_answer s chunk w).plan.agno ≡ s.agno
unfolding plan_answer
answer-group s chunk w =
    choose-elim (λ (x : Planned). x.number ≡ 0 → x.plan.agno ≡ s.agno) (eqb w.number 0) _ _
    (λ t e. refl)
    (λ t e. refused-group w.number s.agno t e)

site-group : (s : Site) → (plan_of s).number ≡ 0 → (plan_of s).plan.agno ≡ s.agno
unfolding plan_of
site-group s =
    choose-elim (λ (x : Planned). x.number ≡ 0 → x.plan.agno ≡ s.agno) (eqb s.agno 0) _ _
    (λ t e. answer-group s (Some s.chunk_at) (chunked s (list_filled s)) e)
    (λ t e. answer-group s None (list_filled s) e)

pub planned-group : (g : Geometry) (k : ℕ) → (planned g k).number ≡ 0 → (planned g k).plan.agno ≡ k
unfolding planned site_of
planned-group g k =
    choose-elim (λ (x : Planned). x.number ≡ 0 → x.plan.agno ≡ k) (eqb (group_refusal g k) 0) _ _
    (λ t e. site-group (site_of g k) e)
    (λ t e. refused-group (group_refusal g k) k t e)

-- which is there
pub planned-there : (g : Geometry) (k : ℕ) → (planned g k).number ≡ 0 → group_refusal g k ≡ 0
unfolding planned
planned-there g k =
    choose-elim (λ (x : Planned). x.number ≡ 0 → group_refusal g k ≡ 0) (eqb (group_refusal g k) 0) _ _
    (λ t e. eqb-true (group_refusal g k) 0 t)
    (λ t e. e)

-- and passes the test
pub planned-is-plan : (g : Geometry) (k : ℕ) → (planned g k).number ≡ 0 → is_plan g (planned g k).plan ≡ true
unfolding is_plan
planned-is-plan g k e =
    rw (planned-group g k e, e, plan-itself (planned g k).plan) refl
