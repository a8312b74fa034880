-- Powers of two: their order, and bytes in whole blocks.
-- Assumes nothing.
use mathlib.Core.Path.{◌≡◌, refl, sym, ap, subst, ◌∙◌}
use mathlib.Core.Bool.{Bool, true, false}
use Prim.Native.Nat.{ℕ, ◌+◌, ◌*◌, ◌-◌, ◌/◌, ◌^◌, ◌≤◌}
use native.Mathlib.Omega.{arith}
use native.Mathlib.Nat.{mul_assoc, mul-div_cancel, mul-le-mul_right}
use borrow.Author.Tests.{leb-true, leb-false}
use lib.Dec.{leb}
use lib.Pow.{pow-lt, pow_pos, pow-add}

order-case : (a b : ℕ) (t : Bool) → leb a b ≡ t → 2 ^ a ≤ 2 ^ b → a ≤ b
order-case a b true e h = leb-true a b e
order-case a b false e h = absurd (let w = pow-lt (leb-false a b e) in omega arith)

-- the order of powers is that of their logarithms
pub pow-order : (a b : ℕ) → 2 ^ a ≤ 2 ^ b → a ≤ b
pow-order a b h = order-case a b (leb a b) refl h

split : (m k l : ℕ) → l ≤ k → m * 2 ^ k ≡ m * 2 ^ (k - l) * 2 ^ l
split m k l h =
    let e : k ≡ k - l + l = omega arith in
    ap (λ (x : ℕ). m * 2 ^ x) e ∙ ap (λ (x : ℕ). m * x) (pow-add 2 (k - l) l) ∙ sym (mul_assoc m (2 ^ (k - l)) (2 ^ l))

-- m * 2 ^ k bytes are a whole number of blocks of 2 ^ l
pub whole-blocks : (m k l : ℕ) → l ≤ k → m * 2 ^ k / 2 ^ l * 2 ^ l ≡ m * 2 ^ k
whole-blocks m k l h =
    let e = split m k l h in
    ap (λ (x : ℕ). x / 2 ^ l * 2 ^ l) e ∙ ap (λ (x : ℕ). x * 2 ^ l) (mul-div_cancel (m * 2 ^ (k - l)) (pow_pos l)) ∙ sym e

-- so as many blocks have as many bytes
pub block-bytes : (m k l n bs : ℕ) → l ≤ k → bs ≡ 2 ^ l → m * 2 ^ k / bs ≤ n → m * 2 ^ k ≤ n * bs
block-bytes m k l n bs h e w =
    let v : m * 2 ^ k / 2 ^ l ≤ n = rw e at w in
    rw e (subst (λ (x : ℕ). x ≤ n * 2 ^ l) (whole-blocks m k l h) (mul-le-mul_right (2 ^ l) v))
