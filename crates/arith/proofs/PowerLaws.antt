-- `power_log` is the logarithm: where it is not 0, its power of two is the number, from 2 ^ 9 to 2 ^ 16.
-- Assumes nothing.
use mathlib.Core.Path.{◌≡◌, refl, ap, ◌∙◌}
use mathlib.Core.Bool.{Bool, true, false, ◌&&◌}
use mathlib.Core.List.{List, [], ◌∷◌}
use Prim.Native.Nat.{ℕ, ◌+◌, ◌-◌, ◌/◌, ◌^◌, ◌≤◌}
use native.Mathlib.Omega.{arith}
use native.Mathlib.Nat.{mul-div_cancel}
use borrow.Author.Tests.{eqb-true, leb-true}
use lib.Dec.{eqb, leb}
use lib.Pow.{pow_mono, pow_pos, pow-add}
use Rattle.arith.specs.Choice.{when}
use Rattle.arith.specs.Powers.{power_in, power_log}
use Rattle.arith.proofs.Both.{left-true, right-true}

-- every power of the list is from lo to hi
abbrev within : ℕ → ℕ → List ℕ → Bool
within lo hi [] = true
within lo hi (k ∷ ks) = leb lo k && (leb k hi && within lo hi ks)

record Found (lo hi n k : ℕ) : Type 0 where
  power : n ≡ 2 ^ k
  least : lo ≤ k
  most : k ≤ hi

step : (lo hi n k rest : ℕ) (t : Bool) → eqb n (2 ^ k) ≡ t → lo ≤ k → k ≤ hi → ((rest ≡ 0 → ⊥) → Found lo hi n rest) → (when t k rest ≡ 0 → ⊥) → Found lo hi n (when t k rest)
unfolding when
step lo hi n k rest true e a b r h = record { power = eqb-true n (2 ^ k) e; least = a; most = b }
step lo hi n k rest false e a b r h = r h

found : (lo hi n : ℕ) (ks : List ℕ) → within lo hi ks ≡ true → (power_in ks n ≡ 0 → ⊥) → Found lo hi n (power_in ks n)
unfolding power_in
found lo hi n [] w h = absurd (h refl)
found lo hi n (k ∷ ks) w h =
    let v = right-true (leb lo k) _ w in
    step lo hi n k (power_in ks n) (eqb n (2 ^ k)) refl (leb-true lo k (left-true (leb lo k) _ w))
    (leb-true k hi (left-true (leb k hi) _ v)) (λ r. found lo hi n ks (right-true (leb k hi) _ v) r) h

logs : (n : ℕ) → (power_log n ≡ 0 → ⊥) → Found 9 16 n (power_log n)
unfolding power_log
logs n h =
    found 9 16 n (9 ∷ 10 ∷ 11 ∷ 12 ∷ 13 ∷ 14 ∷ 15 ∷ 16 ∷ []) refl h

pub log-power : (n : ℕ) → (power_log n ≡ 0 → ⊥) → n ≡ 2 ^ power_log n
log-power n h = (logs n h).power

pub log-least : (n : ℕ) → (power_log n ≡ 0 → ⊥) → 9 ≤ power_log n
log-least n h = (logs n h).least

pub log-most : (n : ℕ) → (power_log n ≡ 0 → ⊥) → power_log n ≤ 16
log-most n h = (logs n h).most

-- a number that has a logarithm is at least 512
pub power-least : (n : ℕ) → (power_log n ≡ 0 → ⊥) → 512 ≤ n
power-least n h =
    let w : 2 ^ 9 ≤ 2 ^ power_log n = pow_mono {i = 9} (log-least n h) in
    let e = log-power n h in
    omega arith

-- a quotient of powers is the power of the difference
pub power_div : (a b : ℕ) → b ≤ a → 2 ^ a / 2 ^ b ≡ 2 ^ (a - b)
power_div a b h =
    let e : a ≡ a - b + b = omega arith in
    ap (λ (x : ℕ). 2 ^ x / 2 ^ b) e ∙ ap (λ (x : ℕ). x / 2 ^ b) (pow-add 2 (a - b) b) ∙ mul-div_cancel (2 ^ (a - b)) (pow_pos b)
