-- The question: its own refusals, and the loop's answer is its.
-- Assumes nothing.
use mathlib.Core.Path.{◌≡◌}
use mathlib.Core.Bool.{true, false}
use Prim.Native.Nat.{ℕ}
use borrow.Author.Tests.{ne_eqb}
use Rattle.refusals.specs.Numbers.{bad_sizes}
use Rattle.arith.specs.Choice.{when}
use Rattle.params.specs.declared.Params.{Params}
use Rattle.inquire_sizes.specs.Ranges.{options_number}
use Rattle.inquire_smallest.specs.Question.{default_groups, smallest_call_refused, found_in, no_sizes, smallest_question, smallest_answer}

module _ (p : Params) (logical physical start count wanted : ℕ) where
  abbrev q : Params
  q = default_groups p

  -- by 1 to 8
  pub options-refused : (n : ℕ) → n ≡ options_number q logical physical → (n ≡ 0 → ⊥) → smallest_call_refused n ≡ smallest_answer p logical physical start count wanted
  unfolding smallest_answer smallest_question
  options-refused n e r = rw (← e, ne_eqb n 0 r, ne_eqb n 0 r)

  -- by 39
  pub sizes-refused : options_number q logical physical ≡ 0 → no_sizes start count ≡ true → smallest_call_refused bad_sizes ≡ smallest_answer p logical physical start count wanted
  unfolding smallest_answer smallest_question when
  sizes-refused z n = rw (z, n)

  -- not at all
  pub answer-found : options_number q logical physical ≡ 0 → no_sizes start count ≡ false → found_in q logical physical start count wanted ≡ smallest_answer p logical physical start count wanted
  unfolding smallest_answer smallest_question when
  answer-found z n = rw (z, n)
