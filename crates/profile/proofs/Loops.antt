-- The two walks over a label's bytes: whether all are allowed, and behind which only zeros stand.
-- Assumes nothing.
use mathlib.Core.Path.{◌≡◌, refl, sym, ap}
use mathlib.Core.Bool.{Bool, true, false, ◌&&◌, cond}
use mathlib.Core.List.{List, [], ◌∷◌}
use Prim.Native.Nat.{ℕ, zero, suc, ◌+◌, ◌<◌}
use native.Mathlib.Omega.{arith}
use native.Mathlib.Numerals.{add-one}
use borrow.Author.Tests.{eq-eqb, ne_eqb}
use lib.Dec.{eqb}
use lib.ListN.{length, get_or}
use Rattle.std.specs.Prelude.{IsTrue, EachIndex, ◌↔◌}
use Rattle.arith.proofs.Both.{right-true, left-true, both_true}
use Rattle.profile.specs.Rules.{label_byte, label_bytes, trimmed}

-- ---- allowed

all-judged : (xs : List ℕ) → ((k : ℕ) → k < length xs → label_byte (get_or xs k 0) ≡ true) → label_bytes xs ≡ true
unfolding label_bytes
all-judged [] h = refl
all-judged (x ∷ xs) h = both_true (label_byte x) (label_bytes xs) (h 0 (omega arith)) (all-judged xs (λ k l. h (suc k) (omega arith)))

each-allowed : (xs : List ℕ) → label_bytes xs ≡ true → (k : ℕ) → k < length xs → label_byte (get_or xs k 0) ≡ true
unfolding label_bytes
each-allowed [] e k h = absurd (omega arith)
each-allowed (x ∷ xs) e zero h = left-true (label_byte x) (label_bytes xs) e
each-allowed (x ∷ xs) e (suc k) h = each-allowed xs (right-true (label_byte x) (label_bytes xs) e) k (omega arith)

pub by-each : (xs : List ℕ) (r : Bool) → (IsTrue r ↔ EachIndex xs (λ k. label_byte (get_or xs k 0) ≡ true)) → r ≡ label_bytes xs
by-each xs true e = sym (all-judged xs (e.0 refl))
by-each xs false e = go (label_bytes xs) refl
  where
    go : (b : Bool) → label_bytes xs ≡ b → false ≡ b
    go true l = e.1 (each-allowed xs l)
    go false l = refl

-- ---- only zeros behind

zeros-behind : (xs : List ℕ) → ((k : ℕ) → k < length xs → get_or xs k 0 ≡ 0) → trimmed xs ≡ []
unfolding trimmed
zeros-behind [] z = refl
zeros-behind (x ∷ xs) z = rw (eq-eqb x 0 (z 0 (omega arith)), zeros-behind xs (λ k h. z (suc k) (omega arith))) refl

pub all-zeros : (xs : List ℕ) → ((k : ℕ) → k < length xs → get_or xs k 0 ≡ 0) → 0 ≡ length (trimmed xs)
all-zeros xs z = rw (zeros-behind xs z) refl

-- the last byte that isn't 0
end-at : (xs : List ℕ) (j : ℕ) → j < length xs → (get_or xs j 0 ≡ 0 → ⊥) → ((k : ℕ) → j < k → k < length xs → get_or xs k 0 ≡ 0) → length (trimmed xs) ≡ suc j
unfolding trimmed
end-at [] j h d z = absurd (omega arith)
end-at (x ∷ xs) zero h d z = rw (ne_eqb x 0 d, zeros-behind xs (λ k l. z (suc k) (omega arith) (omega arith))) refl
end-at (x ∷ xs) (suc j) h d z = go (eqb x 0) (end-at xs j (omega arith) d (λ k l m. z (suc k) (omega arith) (omega arith)))
  where
    go : (b : Bool) → length (trimmed xs) ≡ suc j → length (cond (b && eqb (length (trimmed xs)) 0) [] (x ∷ trimmed xs)) ≡ suc (suc j)
    go true e = rw (ne_eqb (length (trimmed xs)) 0 (λ z. omega arith)) (ap suc e)
    go false e = ap suc e

pub end-here : (xs : List ℕ) (j : ℕ) → j < length xs → (get_or xs j 0 ≡ 0 → ⊥) → ((k : ℕ) → j < k → k < length xs → get_or xs k 0 ≡ 0) → j + 1 ≡ length (trimmed xs)
end-here xs j h d z = rw add-one (sym (end-at xs j h d z))
