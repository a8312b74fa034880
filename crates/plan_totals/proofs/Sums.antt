-- Laws of sums over groups.
-- Assumes nothing.
use mathlib.Core.Path.{◌≡◌, refl, sym, ◌∙◌}
use mathlib.Core.Bool.{Bool, true, false, cond}
use mathlib.Core.Logic.{⊎_elim}
use Prim.Native.Nat.{ℕ, zero, suc, ◌+◌, ◌*◌, ◌-◌, ◌≤◌, ◌<◌}
use native.Mathlib.Omega.{arith}
use native.Mathlib.Nat.{suc-mul, zero-mul, not-suc-le-zero}
use borrow.Author.Tests.{eqb-true, eq-eqb, ne_eqb}
use lib.Dec.{eqb}
use Rattle.arith.specs.Choice.{when}
use Rattle.seqs.proofs.Laws.{lt-or-le}
use Rattle.geometry_layout.specs.Places.{group_blocks}
use Rattle.plan_totals.specs.Totals.{sum_to, first_to}

-- the sum goes by the numbers below n alone
pub sum_same : (n : ℕ) (f h : ℕ → ℕ) → ((k : ℕ) → k < n → f k ≡ h k) → sum_to n f ≡ sum_to n h
unfolding sum_to
sum_same zero f h e = refl
sum_same (suc n) f h e = let i = sum_same n f h (λ k l. e k (omega arith)) in let j = e n (omega arith) in omega arith

pub sum-plus : (n : ℕ) (f h : ℕ → ℕ) → sum_to n (λ k. f k + h k) ≡ sum_to n f + sum_to n h
unfolding sum_to
sum-plus zero f h = refl
sum-plus (suc n) f h = let i = sum-plus n f h in omega arith

pub sum_alike : (n c : ℕ) → sum_to n (λ k. c) ≡ n * c
unfolding sum_to
sum_alike zero c = sym (zero-mul c)
sum_alike (suc n) c = let i = sum_alike n c in let m = suc-mul n c in omega arith

-- a number at one index, 0 elsewhere
module _ (m c : ℕ) where
  abbrev pub only : ℕ → ℕ
  only k = cond (eqb k m) c 0

  only-else : (k : ℕ) → (k ≡ m → ⊥) → only k ≡ 0
  only-else k h = rw (ne_eqb k m h)

  only-there : (k : ℕ) → k ≡ m → only k ≡ c
  only-there k h = rw (eq-eqb k m h)

  none_yet : (n : ℕ) → n ≤ m → sum_to n only ≡ 0
  unfolding sum_to
  none_yet zero h = refl
  none_yet (suc n) h = let i = none_yet n (omega arith) in let j = only-else n (λ e. omega arith) in omega arith

  pub sum-only : (n : ℕ) → m < n → sum_to n only ≡ c
  unfolding sum_to
  sum-only zero h = absurd (not-suc-le-zero h)
  sum-only (suc n) h =
      ⊎_elim
      (λ l. let i = sum-only n l in let j = only-else n (λ e. omega arith) in omega arith)
      (λ l. let i = none_yet n l in let j = only-there n (omega arith) in omega arith)
      (lt-or-le m n)

  -- the first that isn't 0
  kept_at : (t : Bool) → eqb c 0 ≡ t → cond t 0 c ≡ c
  kept_at true e = sym (eqb-true c 0 e)
  kept_at false e = refl

  module _ (f : ℕ → ℕ) where
    first-none : (n : ℕ) → n ≤ m → ((k : ℕ) → k < n → f k ≡ only k) → first_to n f ≡ 0
    unfolding first_to
    first-none zero h e = refl
    first-none (suc n) h e =
        let i = first-none n (omega arith) (λ k l. e k (omega arith)) in
        rw i (e n (omega arith) ∙ only-else n (λ q. omega arith))

    pub first-only : (n : ℕ) → m < n → ((k : ℕ) → k < n → f k ≡ only k) → first_to n f ≡ c
    unfolding first_to
    first-only zero h e = absurd (not-suc-le-zero h)
    first-only (suc n) h e =
        ⊎_elim
        (λ l.
        let i = first-only n l (λ k j. e k (omega arith)) in
        let z : f n ≡ 0 = e n (omega arith) ∙ only-else n (λ q. omega arith) in
        rw (i, z) (kept_at (eqb c 0) refl))
        (λ l.
        let i = first-none n l (λ k j. e k (omega arith)) in
        rw i (e n (omega arith) ∙ only-there n (omega arith)))
        (lt-or-le m n)

-- ---- the lengths of all groups

module _ (d s n : ℕ) where
  whole : (k : ℕ) → k < n - 1 → group_blocks d s n k ≡ s
  unfolding group_blocks when
  whole k h = rw (ne_eqb k (n - 1) (λ e. omega arith))

  last : group_blocks d s n (n - 1) ≡ d - (n - 1) * s
  unfolding group_blocks when
  last = rw (eq-eqb (n - 1) (n - 1) refl)

sum-one-more : (n : ℕ) (f : ℕ → ℕ) → 0 < n → sum_to n f ≡ sum_to (n - 1) f + f (n - 1)
unfolding sum_to
sum-one-more zero f h = absurd (not-suc-le-zero h)
sum-one-more (suc n) f h = let e : suc n - 1 ≡ n = omega arith in rw e

pub sum-lengths : (d s n : ℕ) → 0 < n → (n - 1) * s < d → sum_to n (group_blocks d s n) ≡ d
sum-lengths d s n h k =
    let a = sum_same (n - 1) (group_blocks d s n) (λ k. s) (whole d s n) in
    let b = sum_alike (n - 1) s in
    let c = last d s n in
    let e = sum-one-more n (group_blocks d s n) h in
    omega arith
