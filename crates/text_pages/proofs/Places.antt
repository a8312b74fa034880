-- Laws of the rest of a list from an index on, and of a first index found there, turn by turn of a loop.
-- Assumes nothing.
use mathlib.Core.Path.{◌≡◌, refl, sym, ◌∙◌}
use mathlib.Core.Bool.{Bool, true, false}
use mathlib.Core.List.{List, [], ◌∷◌}
use Prim.Native.Nat.{ℕ, ◌+◌, ◌≤◌, ◌<◌}
use native.Mathlib.Nat.{add-zero}
use native.Mathlib.Numerals.{add-one, one-add}
use native.Mathlib.Omega.{arith}
use lib.ListN.{length, get_or, drop, drop_of_length-le}
use lib.Dec.{eqb}
use lib.Seq.{drop-cons}
use borrow.Author.Tests.{eq-eqb, ne_eqb}
use Rattle.std.proofs.Common.{Option, Some, None}
use Rattle.std.proofs.lemmas.List.Recursion.{is_position_or_len}
use Rattle.std.proofs.lemmas.List.Sums.{position_or_len_is}
use Rattle.std.specs.List.{EachIndex}
use Rattle.std.specs.Option.{MatchOption, unwrap_or}
use Rattle.seqs.specs.Lists.{first_index}

-- ---- the rest of a list, from index i on
module _ {A : Type 0} (xs : List A) (z : A) (i : ℕ) where
  pub rest-cons : i < length xs → drop i xs ≡ get_or xs i z ∷ drop (i + 1) xs
  rest-cons h = rw add-one (drop-cons xs i z h)

pub rest-nil : {A : Type 0} (xs : List A) (i : ℕ) → length xs ≤ i → drop i xs ≡ []
rest-nil xs i h = drop_of_length-le xs h

-- ---- the first index there
module _ (p : ℕ → Bool) (xs : List ℕ) (i : ℕ) where
  pub index-here : i < length xs → p (get_or xs i 0) ≡ true → i + first_index p (drop i xs) ≡ i
  unfolding first_index
  index-here h e = rw (rest-cons xs 0 i h, e, add-zero)

  pub index-later : i < length xs → p (get_or xs i 0) ≡ false → i + first_index p (drop i xs) ≡ i + 1 + first_index p (drop (i + 1) xs)
  unfolding first_index
  index-later h e = rw (rest-cons xs 0 i h, e) (omega arith)

  pub index-past : length xs ≤ i → i + first_index p (drop i xs) ≡ i
  unfolding first_index
  index-past h = rw (rest-nil xs i h, add-zero)

-- ---- what `position` says
module _ (b : ℕ) (xs : List ℕ) where
  is_at : (i : ℕ) → i ≤ length xs → ((k : ℕ) → k < i → get_or xs k 0 ≡ b → ⊥) → (i < length xs → get_or xs i 0 ≡ b) → i ≡ first_index (λ c. eqb c b) xs
  unfolding first_index
  is_at i l before here =
      sym (is_position_or_len (first_index (λ c. eqb c b)) (λ c. eqb c b) refl (λ y ys. simp one-add) xs
      ∙ position_or_len_is (λ c. eqb c b) xs i 0 l (λ k h. ne_eqb _ _ (before k h)) (λ h. eq-eqb _ _ (here h)))

  pub index-by : (r : Option ℕ) → MatchOption r (EachIndex xs (λ k. get_or xs k 0 ≡ b → ⊥)) (λ i. (i < length xs) × (get_or xs i 0 ≡ b) × ((k : ℕ) → k < i → get_or xs k 0 ≡ b → ⊥))
      → (unwrap_or r (length xs) ≡ first_index (λ c. eqb c b) xs) × (unwrap_or r (length xs) ≤ length xs)
  index-by None h = (is_at (length xs) (omega arith) h (λ l. absurd (omega arith)), omega arith)
  index-by (Some i) h = (is_at i (omega (arith, h.0)) h.2 (λ l. h.1), omega (arith, h.0))
