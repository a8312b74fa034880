-- Where the plans are accepted, each group's is.
-- Assumes nothing.
use mathlib.Core.Path.{◌≡◌, refl, ap, ◌∙◌}
use mathlib.Core.Bool.{Bool, true, false, cond}
use Prim.Native.Nat.{ℕ, zero, suc, ◌<◌}
use native.Mathlib.Omega.{arith}
use borrow.Author.Tests.{eqb-true, eqb-false}
use lib.Dec.{eqb}
use lib.ListN.{length}
use Rattle.geometry.specs.declared.Geometry.{Geometry}
use Rattle.plan.specs.Plan.{planned}
use Rattle.plan_totals.specs.Totals.{first_to, plans_number}
use Rattle.plan_totals.proofs.Whole.{all-planned}

-- where the first number that isn't 0 is 0, all are
module _ (f : ℕ → ℕ) where
  both_zero : (n a : ℕ) (t : Bool) → eqb a 0 ≡ t → cond t (f n) a ≡ 0 → (a ≡ 0) × (f n ≡ 0)
  both_zero n a true e z = (eqb-true a 0 e, z)
  both_zero n a false e z = let o = eqb-false a 0 e z in omega arith

  zero-at : (n : ℕ) → ((k : ℕ) → k < n → f k ≡ 0) → f n ≡ 0 → (k : ℕ) → k < suc n → (t : Bool) → eqb k n ≡ t → f k ≡ 0
  zero-at n below b k h true e = ap f (eqb-true k n e) ∙ b
  zero-at n below b k h false e = let o = eqb-false k n e in below k (omega arith)

  all-zero : (n : ℕ) → first_to n f ≡ 0 → (k : ℕ) → k < n → f k ≡ 0
  unfolding first_to
  all-zero zero z k h = omega arith
  all-zero (suc n) z k h =
      let b = both_zero n (first_to n f) (eqb (first_to n f) 0) refl z in
      zero-at n (all-zero n b.0) b.1 k h (eqb k n) refl

-- accepted plans are those of all groups
pub group-planned : (g : Geometry) → length g.label ≡ 12 → plans_number g ≡ 0 → (k : ℕ) → k < g.agcount → (planned g k).number ≡ 0
unfolding plans_number
group-planned g l p k h =
    let e : first_to g.agcount (λ k. (planned g k).number) ≡ 0 = rw (all-planned g l p).0 at p in
    all-zero (λ k. (planned g k).number) g.agcount e k h
