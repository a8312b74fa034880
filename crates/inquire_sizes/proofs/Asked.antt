-- The question: what its own number says of the ends, and the loop's answer is its.
-- Assumes nothing.
use mathlib.Core.Path.{◌≡◌, refl, ◌∙◌}
use mathlib.Core.Bool.{Bool, true, false, ◌||◌}
use Prim.Native.Nat.{ℕ, ◌*◌, ◌-◌, ◌/◌, ◌^◌, ◌≤◌, ◌<◌}
use native.Mathlib.Omega.{arith}
use native.Mathlib.Nat.{div-mul-le_self, mul-le-mul_right}
use borrow.Author.Tests.{eq-eqb, ne_eqb, ltb-false}
use lib.Dec.{ltb}
use lib.ListN.{length}
use Rattle.refusals.specs.Numbers.{bad_range}
use Rattle.arith.specs.Choice.{when}
use Rattle.params.specs.declared.Params.{Params}
use Rattle.run.proofs.Accepted.{none}
use Rattle.inquire_sizes.specs.Ranges.{block_bytes, blocks_number, range_of, options_number, no_range, sizes_question, sizes_call_refused, sizes_answer}
use Rattle.inquire_sizes.specs.Step.{fixed_of, number_at}
use Rattle.inquire_sizes.proofs.Turns.{range-alike}
use Rattle.inquire_sizes.proofs.Blocks.{few-blocks}
use Rattle.inquire_sizes.proofs.Numbered.{step_is}

not-36 : (t : Bool) → when t bad_range 0 ≡ 0 → t ≡ false
unfolding when
not-36 true e = absurd (omega arith)
not-36 false e = refl

first-false : (a b : Bool) → (a || b) ≡ false → a ≡ false
first-false true b e = e
first-false false b e = refl

module _ (p : Params) (logical physical smallest largest : ℕ) where
  abbrev from : ℕ
  from = smallest / block_bytes p

  abbrev to : ℕ
  to = largest / block_bytes p

  -- a question that is refused
  pub question-refused : (n : ℕ) → n ≡ sizes_question p logical physical from to → (n ≡ 0 → ⊥) → sizes_call_refused n ≡ sizes_answer p logical physical smallest largest
  unfolding sizes_answer
  question-refused n e r = rw (← e, ne_eqb n 0 r)

  module _ (z : sizes_question p logical physical from to ≡ 0) where
    options-zero : options_number p logical physical ≡ 0
    unfolding sizes_question
    options-zero = (none (options_number p logical physical) (when (no_range from to) 36 0) z).0

    a-range : no_range from to ≡ false
    unfolding sizes_question
    a-range = not-36 (no_range from to) (none (options_number p logical physical) (when (no_range from to) 36 0) z).1

    pub in_order : from ≤ to
    unfolding no_range
    in_order = ltb-false to from (first-false (ltb to from) (ltb 65536 (to - from)) a-range)

    pub ends-fit : largest < 2 ^ 64 → to < 2 ^ 63
    ends-fit h = few-blocks p logical physical options-zero largest h

    -- a size of the range fits 64 bits
    fits : largest < 2 ^ 64 → (n : ℕ) → n ≤ to → n * block_bytes p < 2 ^ 64
    fits h n l =
        let a = mul-le-mul_right (block_bytes p) l in
        let b = div-mul-le_self largest (block_bytes p) in
        omega arith

    -- what the loop finds
    pub range-found : length p.label.bytes ≡ 12 → largest < 2 ^ 64 → range_of (number_at (fixed_of p logical physical)) from to ≡ sizes_answer p logical physical smallest largest
    unfolding sizes_answer
    range-found label h =
        range-alike (number_at (fixed_of p logical physical)) (blocks_number p logical physical) from to in_order
        (λ n l m. step_is p logical physical options-zero n label (fits h n m))
        ∙ rw (eq-eqb (sizes_question p logical physical from to) 0 z)
