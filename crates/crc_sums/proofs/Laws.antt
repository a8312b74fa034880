-- The loops over places, and what both together say: looked at before and after, the checksums are `already_right`.
-- Assumes nothing.
use mathlib.Core.Path.{◌≡◌, refl, ap, sym, ◌∙◌}
use mathlib.Core.Bool.{Bool, true, false, ◌&&◌}
use mathlib.Core.List.{List, [], ◌∷◌, ◌++◌, append-nil}
use Prim.Native.Nat.{ℕ, zero, suc, ◌+◌, ◌-◌, ◌≤◌, ◌<◌, min}
use native.Mathlib.Numerals.{add-one}
use native.Mathlib.Omega.{arith}
use borrow.Author.Tests.{leb-true, leb-false, eq-eqb, eqb-true}
use Rattle.arith.proofs.Both.{left-true, right-true}
use Rattle.std.proofs.Common.{◌↔◌}
use lib.Dec.{eqb, leb}
use lib.ListN.{length, get_or, set, replicate}
use lib.Seq.{set_at, append_snoc}
use Rattle.crc.specs.Right.{stored_at, already_right}
use Rattle.crc_sums.specs.Sums.{sums_in, same_sums}

-- ---- `sums_at`

length-sums : (n : ℕ) (ps xs : List ℕ) → length (sums_in n ps xs) ≡ n
unfolding sums_in
length-sums zero ps xs = refl
length-sums (suc n) [] xs = ap suc (length-sums n [] xs)
length-sums (suc n) (o ∷ os) xs = ap suc (length-sums n os xs)

-- one place more
sums-more : (i : ℕ) (ps xs : List ℕ) → i < length ps → sums_in (suc i) ps xs ≡ sums_in i ps xs ++ (stored_at (get_or ps i 0) xs ∷ [])
unfolding sums_in
sums-more i [] xs h = absurd (omega arith)
sums-more zero (o ∷ os) xs h = refl
sums-more (suc i) (o ∷ os) xs h = ap (λ (l : List ℕ). stored_at o xs ∷ l) (sums-more i os xs (omega arith))

-- a turn of the loop, over an array of `n`
pub sums-turn : (n i : ℕ) (ps xs out : List ℕ) (v : ℕ) → i < n → i < length ps → out ≡ sums_in i ps xs ++ replicate (n - i) 0 → v ≡ stored_at (get_or ps i 0) xs
    → set out i v ≡ sums_in (i + 1) ps xs ++ replicate (n - (i + 1)) 0
sums-turn n i ps xs out v h k e s =
    let r : n - i ≡ suc (n - (i + 1)) = omega arith in
    let rest = replicate {A = ℕ} (n - (i + 1)) 0 in
    ap (λ (l : List ℕ). set l i v) (e ∙ ap (λ (m : ℕ). sums_in i ps xs ++ replicate m 0) r)
    ∙ set_at (sums_in i ps xs) 0 rest v i (length-sums i ps xs)
    ∙ ap (λ (m : ℕ). sums_in i ps xs ++ (m ∷ rest)) s
    ∙ sym (append_snoc (sums_in i ps xs) (stored_at (get_or ps i 0) xs) rest)
    ∙ ap (λ (l : List ℕ). l ++ rest) (sym (sums-more i ps xs k) ∙ ap (λ (m : ℕ). sums_in m ps xs) (sym (add-one i)))

no-places : (n : ℕ) (xs : List ℕ) → replicate n 0 ≡ sums_in n [] xs
unfolding sums_in
no-places zero xs = refl
no-places (suc n) xs = ap (λ (l : List ℕ). 0 ∷ l) (no-places n xs)

-- no place is left
sums-all : (i k : ℕ) (ps xs : List ℕ) → length ps ≤ i → sums_in i ps xs ++ replicate k 0 ≡ sums_in (i + k) ps xs
unfolding sums_in
sums-all zero k [] xs h = no-places k xs ∙ ap (λ (m : ℕ). sums_in m [] xs) (let z : k ≡ 0 + k = omega arith in z)
sums-all zero k (o ∷ os) xs h = absurd (omega arith)
sums-all (suc i) k [] xs h = ap (λ (l : List ℕ). 0 ∷ l) (sums-all i k [] xs (omega arith)) ∙ ap (λ (m : ℕ). sums_in m [] xs) (let z : suc (i + k) ≡ suc i + k = omega arith in z)
sums-all (suc i) k (o ∷ os) xs h =
    ap (λ (l : List ℕ). stored_at o xs ∷ l) (sums-all i k os xs (omega arith)) ∙ ap (λ (m : ℕ). sums_in m (o ∷ os) xs) (let z : suc (i + k) ≡ suc i + k = omega arith in z)

end_by : (n i : ℕ) (ps xs : List ℕ) (t : Bool) → leb (length ps) i ≡ t → i ≤ n → min (length ps) n ≤ i → sums_in i ps xs ++ replicate (n - i) 0 ≡ sums_in n ps xs
end_by n i ps xs true t h k = sums-all i (n - i) ps xs (leb-true (length ps) i t) ∙ ap (λ (m : ℕ). sums_in m ps xs) (let z : i + (n - i) ≡ n = omega arith in z)
end_by n i ps xs false t h k =
    let l = leb-false (length ps) i t in
    let z : n - i ≡ 0 = omega arith in
    let e : i ≡ n = omega arith in
    ap (λ (m : ℕ). sums_in i ps xs ++ replicate m 0) z ∙ append-nil (sums_in i ps xs) ∙ ap (λ (m : ℕ). sums_in m ps xs) e

pub sums-end : (n i : ℕ) (ps xs out : List ℕ) → i ≤ n → min (length ps) n ≤ i → out ≡ sums_in i ps xs ++ replicate (n - i) 0 → out ≡ sums_in n ps xs
sums-end n i ps xs out h k e = e ∙ end_by n i ps xs (leb (length ps) i) refl h k

pub sums-start : (n : ℕ) (ps xs : List ℕ) → replicate n 0 ≡ sums_in 0 ps xs ++ replicate (n - 0) 0
unfolding sums_in
sums-start n ps xs = ap (λ (m : ℕ). replicate m 0) (let z : n ≡ n - 0 = omega arith in z)

-- ---- `same_sums`

module _ (xs : List ℕ) where
  all-same : (ps ss : List ℕ) → ((k : ℕ) → k < length ps → k < length ss → get_or ss k 0 ≡ stored_at (get_or ps k 0) xs) → same_sums ps ss xs ≡ true
  unfolding same_sums
  all-same [] ss h = refl
  all-same (o ∷ os) [] h = refl
  all-same (o ∷ os) (s ∷ ss) h =
      rw (eq-eqb s (stored_at o xs) (h 0 (omega arith) (omega arith)), all-same os ss (λ k a b. h (suc k) (omega arith) (omega arith))) refl

  same-all : (ps ss : List ℕ) → same_sums ps ss xs ≡ true → (k : ℕ) → k < length ps → k < length ss → get_or ss k 0 ≡ stored_at (get_or ps k 0) xs
  unfolding same_sums
  same-all [] ss e k a b = absurd (omega arith)
  same-all (o ∷ os) [] e k a b = absurd (omega arith)
  same-all (o ∷ os) (s ∷ ss) e zero a b = eqb-true s (stored_at o xs) (left-true (eqb s (stored_at o xs)) (same_sums os ss xs) e)
  same-all (o ∷ os) (s ∷ ss) e (suc k) a b = same-all os ss (right-true (eqb s (stored_at o xs)) (same_sums os ss xs) e) k (omega arith) (omega arith)

-- what the library's `all` says
pub same-by : (t : Bool) (ps ss xs : List ℕ) → (t ≡ true ↔ ((k : ℕ) → k < length ps → k < length ss → get_or ss k 0 ≡ stored_at (get_or ps k 0) xs)) → t ≡ same_sums ps ss xs
same-by true ps ss xs h = sym (all-same xs ps ss (h.0 refl))
same-by false ps ss xs h = by (same_sums ps ss xs) refl
  where
    by : (u : Bool) → same_sums ps ss xs ≡ u → false ≡ u
    by true e = h.1 (same-all xs ps ss e)
    by false e = refl

-- ---- both

-- what was looked at before is compared with what stands there after, at no more than `n` places
looked : (n : ℕ) (ps before after : List ℕ) → length ps ≤ n → same_sums ps (sums_in n ps before) after ≡ already_right ps before after
unfolding sums_in same_sums already_right
looked n [] before after h = refl
looked zero (o ∷ os) before after h = absurd (omega arith)
looked (suc n) (o ∷ os) before after h = ap (λ (b : Bool). eqb (stored_at o before) (stored_at o after) && b) (looked n os before after (omega arith))

pub looked-at : {b : Bool} {at sums : List ℕ} (n : ℕ) (ps before after : List ℕ) → b ≡ same_sums at sums after → at ≡ ps → sums ≡ sums_in n at before → length ps ≤ n
    → b ≡ already_right ps before after
looked-at {b} {at} {sums} n ps before after s e d h =
    s ∙ ap (λ (l : List ℕ). same_sums at l after) d ∙ ap (λ (l : List ℕ). same_sums l (sums_in n l before) after) e ∙ looked n ps before after h
