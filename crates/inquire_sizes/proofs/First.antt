-- The first number that passes a test: what one turn of a loop does to it, and what it means.
-- Assumes nothing.
use mathlib.Core.Path.{◌≡◌, refl}
use mathlib.Core.Bool.{Bool, true, false, cond}
use mathlib.Core.Logic.{⊎_elim}
use Prim.Native.Nat.{ℕ, zero, suc, ◌+◌, ◌-◌, ◌≤◌, ◌<◌}
use native.Mathlib.Omega.{arith}
use native.Mathlib.Nat.{not-suc-le-zero}
use Rattle.seqs.proofs.Laws.{lt-or-le}
use Rattle.inquire_sizes.specs.First.{first_from}

module _ (t : ℕ → Bool) where
  -- ---- a loop's turns

  pub first-here : (at n : ℕ) → 0 < n → t at ≡ true → first_from t at n ≡ at
  unfolding first_from
  first-here at zero h e = absurd (not-suc-le-zero h)
  first-here at (suc n) h e = rw e

  pub first-later : (at n : ℕ) → 0 < n → t at ≡ false → first_from t at n ≡ first_from t (at + 1) (n - 1)
  unfolding first_from
  first-later at zero h e = absurd (not-suc-le-zero h)
  first-later at (suc n) h e = let m : suc n - 1 ≡ n = omega arith in rw (e, m)

  pub first_past : (at n : ℕ) → n ≡ 0 → first_from t at n ≡ at
  unfolding first_from
  first_past at n e = rw e

  -- ---- what it means

  from_at : (at n : ℕ) (b : Bool) → at + 1 ≤ first_from t (at + 1) n → first_from t (at + 1) n ≤ at + 1 + n
      → (at ≤ cond b at (first_from t (at + 1) n)) × (cond b at (first_from t (at + 1) n) ≤ at + suc n)
  from_at at n true l m = (omega arith, omega arith)
  from_at at n false l m = (omega arith, omega arith)

  -- it is one of the numbers, or the next
  pub first-within : (at n : ℕ) → (at ≤ first_from t at n) × (first_from t at n ≤ at + n)
  unfolding first_from
  first-within at zero = (omega arith, omega arith)
  first-within at (suc n) = let i = first-within (at + 1) n in from_at at n (t at) i.0 i.1

  passes_at : (at n : ℕ) (b : Bool) → t at ≡ b → cond b at (first_from t (at + 1) n) < at + suc n
      → (first_from t (at + 1) n < at + 1 + n → t (first_from t (at + 1) n) ≡ true) → t (cond b at (first_from t (at + 1) n)) ≡ true
  passes_at at n true e h i = e
  passes_at at n false e h i = i (omega arith)

  -- one of the numbers passes
  pub first_passes : (at n : ℕ) → first_from t at n < at + n → t (first_from t at n) ≡ true
  unfolding first_from
  first_passes at zero h = absurd (omega arith)
  first_passes at (suc n) h = passes_at at n (t at) refl h (first_passes (at + 1) n)

  fails-at : (at n k : ℕ) (b : Bool) → t at ≡ b → at ≤ k → k < cond b at (first_from t (at + 1) n)
      → (at + 1 ≤ k → k < first_from t (at + 1) n → t k ≡ false) → t k ≡ false
  fails-at at n k true e l h i = absurd (omega arith)
  fails-at at n k false e l h i =
      ⊎_elim (λ m. i (omega arith) h) (λ m. let s : k ≡ at = omega arith in rw s e) (lt-or-le at k)

  -- no smaller one does
  pub first-fails : (at n k : ℕ) → at ≤ k → k < first_from t at n → t k ≡ false
  unfolding first_from
  first-fails at zero k l h = absurd (omega arith)
  first-fails at (suc n) k l h = fails-at at n k (t at) refl l h (first-fails (at + 1) n k)

module _ (t u : ℕ → Bool) where
  -- two tests that agree on the numbers have the same first
  pub first_alike : (at n : ℕ) → ((k : ℕ) → at ≤ k → k < at + n → t k ≡ u k) → first_from t at n ≡ first_from u at n
  unfolding first_from
  first_alike at zero e = refl
  first_alike at (suc n) e =
      rw (e at (omega arith) (omega arith), first_alike (at + 1) n (λ k l h. e k (omega arith) (omega arith)))
