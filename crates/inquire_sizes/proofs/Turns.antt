-- What one turn of the loop over a range does to what its definition says; a range by another rule that agrees on its sizes.
-- Assumes nothing.
use mathlib.Core.Path.{◌≡◌, refl, ap, ◌∙◌}
use mathlib.Core.Bool.{Bool, true, false, not, cond}
use Prim.Native.Nat.{ℕ, ◌+◌, ◌-◌, ◌≤◌, ◌<◌}
use native.Mathlib.Omega.{arith}
use borrow.Author.Tests.{lt-ltb, le-ltb, ltb-false, eq-eqb, ne_eqb}
use lib.Dec.{ltb, eqb}
use Rattle.inquire_sizes.specs.First.{first_from}
use Rattle.inquire_sizes.specs.Ranges.{smallest_refused, all_formatted, refused_size, range_of}
use Rattle.inquire_sizes.proofs.First.{first-here, first-later, first_past, first-within, first_alike}

-- the test of a refused size
abbrev pub is_refused : (ℕ → ℕ) → ℕ → Bool
is_refused number n = not (eqb (number n) 0)

module _ (number : ℕ → ℕ) (from to : ℕ) where
  -- ---- the loop: what is left of the range has the smallest refused size

  module _ (n : ℕ) (left : smallest_refused number from to ≡ first_from (is_refused number) n (to + 1 - n)) where
    -- a refused size ends it
    pub refused-here : n ≤ to → (number n ≡ 0 → ⊥) → range_of number from to ≡ refused_size n (number n)
    unfolding range_of
    refused-here h r =
        let e : smallest_refused number from to ≡ n = left ∙ first-here (is_refused number) n (to + 1 - n) (omega arith) (ap not (ne_eqb (number n) 0 r)) in
        rw (e, le-ltb to n h)

    -- a formatted one is passed
    pub formatted-here : n ≤ to → number n ≡ 0 → smallest_refused number from to ≡ first_from (is_refused number) (n + 1) (to + 1 - (n + 1))
    formatted-here h z =
        let s : to + 1 - n - 1 ≡ to + 1 - (n + 1) = omega arith in
        left ∙ first-later (is_refused number) n (to + 1 - n) (omega arith) (ap not (eq-eqb (number n) 0 z)) ∙ rw s

    -- behind the last one all are formatted
    pub all-formatted : to < n → range_of number from to ≡ all_formatted
    unfolding range_of
    all-formatted h =
        let e : smallest_refused number from to ≡ n = left ∙ first_past (is_refused number) n (to + 1 - n) (omega arith) in
        rw (e, lt-ltb to n h)

module _ (number other : ℕ → ℕ) (from to : ℕ) (order : from ≤ to) (alike : (n : ℕ) → from ≤ n → n ≤ to → number n ≡ other n) where
  smallest-alike : smallest_refused number from to ≡ smallest_refused other from to
  unfolding smallest_refused
  smallest-alike =
      first_alike (is_refused number) (is_refused other) from (to + 1 - from)
      (λ k l h. ap (λ (m : ℕ). not (eqb m 0)) (alike k l (omega arith)))

  smallest-from : from ≤ smallest_refused number from to
  unfolding smallest_refused
  smallest-from = (first-within (is_refused number) from (to + 1 - from)).0

  range_at : (n : ℕ) (t : Bool) → ltb to n ≡ t → from ≤ n → cond t all_formatted (refused_size n (number n)) ≡ cond t all_formatted (refused_size n (other n))
  range_at n true e l = refl
  range_at n false e l = ap (λ (m : ℕ). refused_size n m) (alike n l (ltb-false to n e))

  -- two rules that agree on the sizes of a range say the same of it
  pub range-alike : range_of number from to ≡ range_of other from to
  unfolding range_of
  range-alike =
      let n = smallest_refused number from to in
      range_at n (ltb to n) refl smallest-from
      ∙ ap (λ (m : ℕ). cond (ltb to m) all_formatted (refused_size m (other m))) smallest-alike
