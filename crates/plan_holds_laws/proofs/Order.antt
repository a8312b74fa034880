-- The order of calls doesn't matter for the state that they leave.
-- Assumes nothing.
use mathlib.Core.Path.{◌≡◌, refl, sym, subst, ap}
use mathlib.Core.Bool.{Bool, true, false, cond}
use mathlib.Core.List.{List, [], ◌∷◌}
use mathlib.Core.Logic.{◌⊎◌, inl, inr, ⊎_elim}
use Prim.Native.Nat.{ℕ, ◌+◌, ◌≤◌, ◌<◌}
use native.Mathlib.Omega.{arith}
use borrow.Author.Tests.{eq-eqb}
use lib.ListN.{length}
use Rattle.seqs.specs.Lists.{total}
use Rattle.seqs.specs.Runs.{valid}
use Rattle.seqs.proofs.Parts.{Follows, valid-uncons}
use Rattle.btree.specs.declared.records.AllocRec.{AllocRec}
use Rattle.geometry.specs.declared.Geometry.{Geometry}
use Rattle.plan_free.specs.Free.{alloc_start, alloc_count, alloc_end}
use Rattle.plan.specs.Plan.{planned}
use Rattle.plan_holds.specs.declared.Holds.{Holds}
use Rattle.plan_holds.specs.Holding.{block_run, is_run}
use Rattle.plan_holds_laws.specs.Calls.{Call, after_calls, first_of, times, times_held, times_given}
use Rattle.plan_holds_laws.proofs.Inserted.{is-run-facts}
use Rattle.plan_holds_laws.proofs.Kept.{Kept, kept_same}
use Rattle.plan_holds_laws.proofs.First.{plan-separate}
use Rattle.plan_holds_laws.proofs.Left.{from_start}

-- ---- how often a sorted list has each run fixes it
first-or-later : (a n : ℕ) (x : AllocRec) (m : ℕ) (t : Bool) → is_run a n x ≡ t → 0 < cond t 1 0 + m → (x ≡ block_run a n) ⊎ (0 < m)
first-or-later a n x m true e h = inl (is-run-facts a n x e)
first-or-later a n x m false e h = inr (omega arith)

times-cons : (a n : ℕ) (x : AllocRec) (xs : List AllocRec) → times a n (x ∷ xs) ≡ cond (is_run a n x) 1 0 + times a n xs
unfolding total
times-cons a n x xs = refl

times_none : (a n : ℕ) → times a n [] ≡ 0
unfolding total
times_none a n = refl

times-after : (a n lo : ℕ) (xs : List AllocRec) → valid alloc_start alloc_count lo xs ≡ true → 0 < times a n xs → lo ≤ a
times-after a n lo [] v h = let z = times_none a n in absurd (omega arith)
times-after a n lo (x ∷ xs) v h =
    let u = valid-uncons alloc_start alloc_count lo x xs v in
    let f = u.0.low in
    let c = times-cons a n x xs in
    ⊎_elim
    (λ e. let s : x.start ≡ a = ap (λ (r : AllocRec). r.start) e in omega arith)
    (λ m. let i = times-after a n (alloc_end x) xs u.1 m in omega arith)
    (first-or-later a n x (times a n xs) (is_run a n x) refl (omega arith))

times-itself : (x : AllocRec) (xs : List AllocRec) → 0 < times x.start x.count (x ∷ xs)
times-itself x xs =
    let c = times-cons x.start x.count x xs in
    let e : is_run x.start x.count x ≡ true = rw (eq-eqb x.start x.start refl, eq-eqb x.count x.count refl) refl in
    let d : cond {A = ℕ} (is_run x.start x.count x) 1 0 ≡ 1 = ap (λ (t : Bool). cond t 1 0) e in
    omega arith

module _ (x y : AllocRec) (ys : List AllocRec) (lo : ℕ) (v : valid alloc_start alloc_count lo (y ∷ ys) ≡ true) where
  same-or-after : 0 < times x.start x.count (y ∷ ys) → (y ≡ x) ⊎ (alloc_end y ≤ x.start)
  same-or-after h =
      let c = times-cons x.start x.count y ys in
      let u = valid-uncons alloc_start alloc_count lo y ys v in
      ⊎_elim inl (λ m. inr (times-after x.start x.count (alloc_end y) ys u.1 m)) (first-or-later x.start x.count y (times x.start x.count ys) (is_run x.start x.count y) refl (omega arith))

times-same : (lo lo' : ℕ) (xs ys : List AllocRec) → valid alloc_start alloc_count lo xs ≡ true → valid alloc_start alloc_count lo' ys ≡ true → ((a n : ℕ) → times a n xs ≡ times a n ys) → xs ≡ ys
times-same lo lo' [] [] v w e = refl
times-same lo lo' [] (y ∷ ys) v w e =
    let i = times-itself y ys in let q = e y.start y.count in let z = times_none y.start y.count in absurd (omega arith)
times-same lo lo' (x ∷ xs) [] v w e =
    let i = times-itself x xs in let q = e x.start x.count in let z = times_none x.start x.count in absurd (omega arith)
times-same lo lo' (x ∷ xs) (y ∷ ys) v w e =
    let u = valid-uncons alloc_start alloc_count lo x xs v in
    let t = valid-uncons alloc_start alloc_count lo' y ys w in
    let c = u.0.some in
    let d = t.0.some in
    let i = times-itself x xs in
    let j = times-itself y ys in
    let q = e x.start x.count in
    let r = e y.start y.count in
    let p : x ≡ y =
    ⊎_elim (λ m. sym m)
    (λ m. ⊎_elim (λ f. f) (λ f. absurd (omega arith)) (same-or-after y x xs lo v (omega arith)))
    (same-or-after x y ys lo' w (omega arith)) in
    let z = times-same (alloc_end x) (alloc_end y) xs ys u.1 t.1
    (λ a n. let k = e a n in
    let f = times-cons a n x xs in
    let h = times-cons a n y ys in
    let o : cond {A = ℕ} (is_run a n x) 1 0 ≡ cond (is_run a n y) 1 0 = ap (λ (s : AllocRec). cond (is_run a n s) 1 0) p in
    omega arith) in
    rw (p, z) refl

-- TWO LISTS OF CALLS THAT HOLD AND GIVE BACK THE SAME RUNS LEAVE THE SAME STATE
pub same-calls : (g : Geometry) → length g.label ≡ 12 → (k : ℕ) → (planned g k).number ≡ 0 → (cs ds : List Call)
    → ((a n : ℕ) → times_held g k cs a n + times_given g k ds a n ≡ times_held g k ds a n + times_given g k cs a n)
    → after_calls g (first_of g k) cs ≡ after_calls g (first_of g k) ds
same-calls g l k q cs ds e =
    let c = from_start g l k q cs in
    let d = from_start g l k q ds in
    let m = times-same 0 0 c.runs d.runs c.kept.sorted d.kept.sorted
    (λ a n. let x = c.moved a n in let y = d.moved a n in let z = e a n in omega arith) in
    kept_same g k (plan-separate g l k q) d.runs (after_calls g (first_of g k) cs) (after_calls g (first_of g k) ds)
    (subst (λ (rs : List AllocRec). Kept g k rs (after_calls g (first_of g k) cs)) m c.kept) d.kept
