-- What one turn of the loop over the sizes does to what its definition says; what a question that isn't refused by 39 says of its sizes.
-- Assumes nothing.
use mathlib.Core.Path.{◌≡◌, refl, ◌∙◌}
use mathlib.Core.Bool.{Bool, true, false, ◌||◌}
use Prim.Native.Nat.{ℕ, ◌+◌, ◌*◌, ◌-◌, ◌^◌, ◌≤◌, ◌<◌}
use native.Mathlib.Omega.{arith}
use native.Mathlib.Nat.{pos_of_ne-zero}
use borrow.Author.Tests.{lt-ltb, le-ltb, ltb-false, leb-false, eqb-false}
use lib.Dec.{leb, ltb, eqb}
use Rattle.refusals.specs.Numbers.{none_reaches}
use Rattle.params.specs.declared.Params.{Params}
use Rattle.inquire_sizes.specs.First.{first_from}
use Rattle.inquire_sizes.proofs.First.{first-here, first-later, first_past}
use Rattle.inquire_smallest.specs.Question.{reaches, size_tried, first_reaching, smallest_call_refused, found_in, no_sizes}

-- the test of a size by its index
abbrev pub enough : Params → ℕ → ℕ → ℕ → ℕ → ℕ → Bool
enough p logical physical start wanted i = reaches p logical physical wanted (size_tried start i)

module _ (p : Params) (logical physical start count wanted : ℕ) where
  abbrev its-first : ℕ
  its-first = first_reaching p logical physical start count wanted

  abbrev test : ℕ → Bool
  test = enough p logical physical start wanted

  -- the loop: what is left of the sizes has the first that reaches the count; at first all are
  pub all_left : its-first ≡ first_from test 0 (count - 0)
  unfolding first_reaching
  all_left = let e : count - 0 ≡ count = omega arith in rw e

  module _ (i : ℕ) (left : its-first ≡ first_from test i (count - i)) where
    pub found_here : i < count → reaches p logical physical wanted (size_tried start i) ≡ true
        → found_in p logical physical start count wanted ≡ record { number = 0; size = size_tried start i }
    unfolding found_in
    found_here h r = let e : its-first ≡ i = left ∙ first-here test i (count - i) (omega arith) r in rw (e, lt-ltb i count h)

    pub not-here : i < count → reaches p logical physical wanted (size_tried start i) ≡ false → its-first ≡ first_from test (i + 1) (count - (i + 1))
    not-here h r =
        let s : count - i - 1 ≡ count - (i + 1) = omega arith in
        left ∙ first-later test i (count - i) (omega arith) r ∙ rw s

    pub nowhere : count ≤ i → i ≤ count → found_in p logical physical start count wanted ≡ smallest_call_refused none_reaches
    unfolding found_in
    nowhere h l = let e : its-first ≡ i = left ∙ first_past test i (count - i) (omega arith) in rw (e, le-ltb i count h)

neither : (a b : Bool) → (a || b) ≡ false → (a ≡ false) × (b ≡ false)
neither true b e = absurd (let z : ◌≡◌ {A = ℕ} 0 1 = cc in omega arith)
neither false b e = (refl, e)

-- there are sizes, not too many, and the last fits
pub sizes-fit : (start count : ℕ) → no_sizes start count ≡ false → (0 < count) × (count ≤ 65536) × (start + (count - 1) * 2 ^ 20 < 2 ^ 64)
unfolding no_sizes
sizes-fit start count e =
    let a = neither (eqb count 0) (ltb 65536 count || leb (2 ^ 64) (size_tried start (count - 1))) e in
    let b = neither (ltb 65536 count) (leb (2 ^ 64) (size_tried start (count - 1))) a.1 in
    let n = eqb-false count 0 a.0 in
    (pos_of_ne-zero n, ltb-false 65536 count b.0, leb-false (2 ^ 64) (size_tried start (count - 1)) b.1)
