-- Lists over any element: the first that passes a test, a part replaced, an array of 64 with a count, loops.
-- Assumes nothing.
use Rattle.std.specs.Prelude.{Bool, cond, List, [], ◌∷◌, ◌++◌, ℕ, zero, suc, ◌+◌, ◌-◌, ltb, length, take, drop, set, replicate}

-- the index of the first element that passes the test, or the count where none does
unfoldable pub first_index : {A : Type 0} → (A → Bool) → List A → ℕ
first_index p [] = 0
first_index p (x ∷ xs) = cond (p x) 0 (suc (first_index p xs))

-- xs with ys in place of the elements from index i up to, not including, index j
abbrev pub spliced : {A : Type 0} → List A → ℕ → ℕ → List A → List A
spliced xs i j ys = take i xs ++ (ys ++ drop j xs)

-- ---- an array of 64 with a count
pub record Store (A : Type 0) : Type 0 where
  pub recs : List A
  pub len : ℕ

-- the list that it holds: its first `len` elements
abbrev pub live : {A : Type 0} → Store A → List A
live s = take s.len s.recs

-- a list in such an array: every slot past the count holds z
abbrev pub packed : {A : Type 0} → A → List A → Store A
packed z xs = record { recs = xs ++ replicate (64 - length xs) z; len = length xs }

-- one element put behind the last; a full array stays as it is
unfoldable pub pushed : {A : Type 0} → Store A → A → Store A
pushed s x = cond (ltb s.len 64) (record { recs = set s.recs s.len x; len = s.len + 1 }) s

-- several, one after the other
unfoldable pub appended : {A : Type 0} → Store A → List A → Store A
appended s [] = s
appended s (x ∷ xs) = appended (pushed s x) xs

-- ---- a loop over a list with a state, and a loop of k turns
unfoldable pub fold : {A S : Type 0} → (S → A → S) → S → List A → S
fold f s [] = s
fold f s (x ∷ xs) = fold f (f s x) xs

unfoldable pub turns : {S : Type 0} → (S → S) → ℕ → S → S
turns f zero s = s
turns f (suc k) s = turns f k (f s)

-- the sum of g over the elements
unfoldable pub total : {A : Type 0} → (A → ℕ) → List A → ℕ
total g [] = 0
total g (x ∷ xs) = g x + total g xs

-- the numbers from a, n of them
unfoldable pub up_from : ℕ → ℕ → List ℕ
up_from a zero = []
up_from a (suc n) = a ∷ up_from (a + 1) n
