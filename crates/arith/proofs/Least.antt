-- `log2_up` is the least power: n is at most 2 ^ it, and above 2 ^ j for every j below it.
-- Assumes nothing.
use mathlib.Core.Path.{◌≡◌, refl, subst}
use mathlib.Core.Bool.{Bool, true, false}
use Prim.Native.Nat.{ℕ, zero, suc, ◌+◌, ◌^◌, ◌≤◌, ◌<◌}
use native.Mathlib.Omega.{arith}
use borrow.Author.Tests.{leb-true, leb-false}
use lib.Dec.{leb}
use lib.Pow.{pow_mono}
use Rattle.arith.specs.Choice.{when}
use Rattle.arith.specs.Powers.{least_from, log2_up}

-- the answer of a step of the search, by its test
module _ (n l r : ℕ) where
  enough : (t : Bool) → leb n (2 ^ l) ≡ t → n ≤ 2 ^ r → n ≤ 2 ^ when t l r
  unfolding when
  enough true e h = leb-true n (2 ^ l) e
  enough false e h = h

  within : (k : ℕ) (t : Bool) → leb n (2 ^ l) ≡ t → l ≤ k → (2 ^ l < n → r ≤ k) → when t l r ≤ k
  unfolding when
  within k true e h g = h
  within k false e h g = g (leb-false n (2 ^ l) e)

  least : (j : ℕ) (t : Bool) → leb n (2 ^ l) ≡ t → l ≤ j → j < when t l r → (l + 1 ≤ j → j < r → 2 ^ j < n) → 2 ^ j < n
  unfolding when
  least j true e h k g = absurd (omega arith)
  least j false e h k g = by_order (leb (l + 1) j) refl
    where
      by_order : (t : Bool) → leb (l + 1) j ≡ t → 2 ^ j < n
      by_order true q = g (leb-true (l + 1) j q) k
      by_order false q =
          let w = leb-false (l + 1) j q in
          let s : l ≡ j = omega arith in
          subst (λ (x : ℕ). 2 ^ x < n) s (leb-false n (2 ^ l) e)

reaches : (f l n : ℕ) → n ≤ 2 ^ (l + f) → n ≤ 2 ^ least_from f l n
unfolding least_from
reaches zero l n h = subst (λ (x : ℕ). n ≤ 2 ^ x) (let e : l + 0 ≡ l = omega arith in e) h
reaches (suc f) l n h =
    enough n l (least_from f (l + 1) n) (leb n (2 ^ l)) refl
    (reaches f (l + 1) n (subst (λ (x : ℕ). n ≤ 2 ^ x) (let e : l + suc f ≡ l + 1 + f = omega arith in e) h))

stays : (f l n k : ℕ) → l ≤ k → k ≤ l + f → n ≤ 2 ^ k → least_from f l n ≤ k
unfolding least_from
stays zero l n k a b h = a
stays (suc f) l n k a b h =
    within n l (least_from f (l + 1) n) k (leb n (2 ^ l)) refl a
    (λ q. stays f (l + 1) n k (above q) (omega arith) h)
  where
    by_order : (t : Bool) → leb k l ≡ t → 2 ^ l < n → l + 1 ≤ k
    by_order true e q = let w = pow_mono (leb-true k l e) in absurd (omega arith)
    by_order false e q = let w = leb-false k l e in omega arith

    above : 2 ^ l < n → l + 1 ≤ k
    above q = by_order (leb k l) refl q

below : (f l n j : ℕ) → l ≤ j → j < least_from f l n → 2 ^ j < n
unfolding least_from
below zero l n j a h = absurd (omega arith)
below (suc f) l n j a h = least n l (least_from f (l + 1) n) j (leb n (2 ^ l)) refl a h (λ b k. below f (l + 1) n j b k)

pub log-reaches : (n : ℕ) → n ≤ 2 ^ 64 → n ≤ 2 ^ log2_up n
unfolding log2_up
log-reaches n h = reaches 64 0 n h

pub log-stays : (n k : ℕ) → k ≤ 64 → n ≤ 2 ^ k → log2_up n ≤ k
unfolding log2_up
log-stays n k h t = stays 64 0 n k (omega arith) (omega arith) t

pub log-least : (n j : ℕ) → j < log2_up n → 2 ^ j < n
unfolding log2_up
log-least n j h = below 64 0 n j (omega arith) h
