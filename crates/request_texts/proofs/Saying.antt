-- Laws of names and numbers: what the library's words are here, each turn of a loop, and each branch of a test.
-- Assumes nothing.
use mathlib.Core.Path.{◌≡◌, refl, sym, ap, ◌∙◌}
use mathlib.Core.Bool.{Bool, true, false, cond}
use mathlib.Core.List.{List, [], ◌∷◌}
use Prim.Native.Nat.{ℕ, zero, suc, ◌+◌, ◌-◌, ◌*◌, ◌^◌, ◌≤◌, ◌<◌}
use native.Mathlib.Nat.{mul-suc}
use native.Mathlib.Omega.{arith}
use lib.Dec.{ltb}
use lib.ListN.{length, get_or, take, drop}
use borrow.Author.Tests.{lt-ltb, le-ltb, eq-eqb, ne_eqb, ltb-true, ltb-false}
use Rattle.std.specs.List.{position, position_or_len}
use Rattle.std.specs.List.{fold as std_fold}
use Rattle.std.specs.Option.{unwrap_or}
use Rattle.std.proofs.Common.{Some, None}
use Rattle.std.proofs.lemmas.List.Sums.{prefix_len-le-length}
use Rattle.std.proofs.lemmas.List.Recursion.{is_position_or_len}
use Rattle.seqs.specs.Lists.{first_index, fold}
use Rattle.table_lines.specs.Decimal.{value_after}
use Rattle.text_pages.proofs.Places.{rest-cons, rest-nil}
use Rattle.request_texts.specs.declared.Value.{Value}
use Rattle.request_texts.specs.Texts.{good_value, malformed_value, too_large, within, leading, factor, number_text}

-- ---- what the library's words for a list are here
module _ {S : Type 0} (f : S → ℕ → S) where
  pub folded : (s : S) (xs : List ℕ) → std_fold f s xs ≡ fold f s xs
  unfolding fold
  folded s [] = refl
  folded s (x ∷ xs) = folded (f s x) xs

one_more : (n : ℕ) → 1 + n ≡ suc n
one_more n = omega arith

module _ (p : ℕ → Bool) (xs : List ℕ) where
  first_is : first_index p xs ≡ position_or_len p xs
  unfolding first_index
  first_is = is_position_or_len (first_index p) p refl (λ y ys. rw (one_more (first_index p ys)) refl) xs

  pub first-within : first_index p xs ≤ length xs
  first-within = rw first_is (prefix_len-le-length _ xs)

  -- where the first that passes stands, or the length
  pub found_first : unwrap_or (position p xs) (length xs) ≡ first_index p xs
  found_first = go (ltb (position_or_len p xs) (length xs)) refl ∙ sym first_is
    where
      go : (t : Bool) → ltb (position_or_len p xs) (length xs) ≡ t → unwrap_or (cond t (Some (position_or_len p xs)) None) (length xs) ≡ position_or_len p xs
      go true e = refl
      go false e =
          let h = ltb-false (position_or_len p xs) (length xs) e in
          let k : position_or_len p xs ≤ length xs = prefix_len-le-length _ xs in
          omega arith

-- ---- the number that digits say
pub value_grows : (v : ℕ) (bs : List ℕ) → v ≤ value_after v bs
unfolding value_after
value_grows v [] = omega arith
value_grows v (b ∷ bs) = let h = value_grows (v * 10 + (b - 48)) bs in omega arith

module _ (v : ℕ) (xs : List ℕ) (i : ℕ) where
  pub value-turn : i < length xs → value_after v (drop i xs) ≡ value_after (v * 10 + (get_or xs i 0 - 48)) (drop (i + 1) xs)
  unfolding value_after
  value-turn h = rw (rest-cons xs 0 i h)

  pub value-done : length xs ≤ i → value_after v (drop i xs) ≡ v
  unfolding value_after
  value-done h = rw (rest-nil xs i h)

  pub value-over : i < length xs → 2 ^ 64 ≤ v * 10 + (get_or xs i 0 - 48) → 2 ^ 64 ≤ value_after v (drop i xs)
  value-over h k = let g = value_grows (v * 10 + (get_or xs i 0 - 48)) (drop (i + 1) xs) in rw (value-turn h) (omega arith)

pub within-over : (n : ℕ) → 2 ^ 64 ≤ n → too_large ≡ within n
within-over n h = rw (le-ltb n (2 ^ 64) h)

pub within-is : (n v : ℕ) → v < 2 ^ 64 → v ≡ n → good_value v ≡ within n
within-is n v h e = rw (← e, lt-ltb v (2 ^ 64) h)

-- ---- a number that is within 64 bits, or isn't
module _ (n : ℕ) (v : Value) where
  over-at : (t : Bool) → ltb n (2 ^ 64) ≡ t → v ≡ cond t (good_value n) too_large → (v.number ≡ 0 → ⊥) → 2 ^ 64 ≤ n
  over-at true h e ne = absurd (ne (ap (λ (w : Value). w.number) e))
  over-at false h e ne = ltb-false n (2 ^ 64) h

  good-at : (t : Bool) → ltb n (2 ^ 64) ≡ t → v ≡ cond t (good_value n) too_large → v.number ≡ 0 → v.value ≡ n
  good-at true h e z = ap (λ (w : Value). w.value) e
  good-at false h e z = let k : v.number ≡ 4 = ap (λ (w : Value). w.number) e in absurd (omega arith)

at_least : (n m : ℕ) → 2 ^ 64 ≤ n → (m ≡ 0 → ⊥) → 2 ^ 64 ≤ n * m
at_least n zero h ne = absurd (ne refl)
at_least n (suc m) h ne = let e : n * suc m ≡ n * m + n = mul-suc n m in omega arith

-- ---- a number
module _ (text : List ℕ) (n : ℕ) (at : n ≡ leading text) where
  pub number-none : n ≡ 0 → malformed_value ≡ number_text text
  unfolding number_text
  number-none e = rw (← at, eq-eqb n 0 e)

  module _ (m : ℕ) (by : m ≡ factor (drop n text)) (some : n ≡ 0 → ⊥) where
    pub number_behind : m ≡ 0 → malformed_value ≡ number_text text
    unfolding number_text
    number_behind e = rw (← at, ne_eqb n 0 some, ← by, eq-eqb m 0 e)

    pub number_is : (m ≡ 0 → ⊥) → within (value_after 0 (take n text) * m) ≡ number_text text
    unfolding number_text
    number_is ne = rw (← at, ne_eqb n 0 some, ← by, ne_eqb m 0 ne)

    -- the digits' number is `v`, or too large by itself
    module _ (v : Value) (digits : v ≡ within (value_after 0 (take n text))) (ne : m ≡ 0 → ⊥) where
      pub number-over : (v.number ≡ 0 → ⊥) → too_large ≡ number_text text
      number-over z =
          let d = value_after 0 (take n text) in
          within-over (d * m) (at_least d m (over-at d v (ltb d (2 ^ 64)) refl digits z) ne) ∙ number_is ne

      pub number_fits : v.number ≡ 0 → ltb (v.value * m) (2 ^ 64) ≡ true → good_value (v.value * m) ≡ number_text text
      number_fits z t =
          let d = value_after 0 (take n text) in
          within-is (d * m) (v.value * m) (ltb-true (v.value * m) (2 ^ 64) t) (ap (λ (x : ℕ). x * m) (good-at d v (ltb d (2 ^ 64)) refl digits z)) ∙ number_is ne

      pub number-passes : v.number ≡ 0 → ltb (v.value * m) (2 ^ 64) ≡ false → too_large ≡ number_text text
      number-passes z t =
          let d = value_after 0 (take n text) in
          let e : v.value ≡ d = good-at d v (ltb d (2 ^ 64)) refl digits z in
          within-over (d * m) (rw e at (ltb-false (v.value * m) (2 ^ 64) t)) ∙ number_is ne
