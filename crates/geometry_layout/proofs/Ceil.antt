-- Groups of s blocks over d blocks: how many there are, and what is left for the last.
-- Assumes nothing.
use mathlib.Core.Path.{◌≡◌, refl, ap, ◌∙◌}
use mathlib.Core.Bool.{Bool, true, false, not, ◌&&◌}
use Prim.Native.Nat.{ℕ, zero, suc, ◌+◌, ◌*◌, ◌-◌, ◌/◌, ◌%◌, ◌≤◌, ◌<◌}
use native.Mathlib.Omega.{arith}
use native.Mathlib.Nat.{div-add-mod', mod-lt, add-mul, one-mul, zero-mul, lt_of_mul-lt-mul_right}
use borrow.Author.Tests.{eqb-true, eqb-false, ltb-false}
use lib.Dec.{eqb, ltb}
use Rattle.arith.specs.Choice.{when, bit}
use Rattle.arith.specs.Numbers.{ceil_div}

-- of q whole groups and r blocks more
pub record Counted (d s n last : ℕ) : Type 0 where
  pub some : 0 < n
  pub before : (n - 1) * s < d
  pub enough : d ≤ n * s
  pub left : d - (n - 1) * s ≡ last

-- one more: n * s is (n - 1) * s + s
pub one_more : (n s : ℕ) → 0 < n → n * s ≡ (n - 1) * s + s
one_more n s h =
    let e : n ≡ n - 1 + 1 = omega arith in
    ap (λ (x : ℕ). x * s) e ∙ add-mul (n - 1) 1 s ∙ ap (λ (x : ℕ). (n - 1) * s + x) (one-mul s)

some-whole : (q s d : ℕ) → q * s ≡ d → 0 < d → 0 < q
some-whole zero s d e h = absurd (omega (arith, zero-mul s))
some-whole (suc q) s d e h = omega arith

counted-at : (d s q r : ℕ) (t : Bool) → eqb r 0 ≡ t → 0 < d → 0 < s → r < s → q * s + r ≡ d → Counted d s (q + bit (not t)) (when t s r)
unfolding bit when
counted-at d s q r true e h k l m =
    let z : r ≡ 0 = eqb-true r 0 e in
    let w : q * s ≡ d = omega arith in
    let p = some-whole q s d w h in
    let o = one_more q s p in
    let y : q + 0 ≡ q = omega arith in
    rw y (record { some = p; before = omega arith; enough = omega arith; left = omega arith })
counted-at d s q r false e h k l m =
    let z = eqb-false r 0 e in
    let y : q + 1 - 1 ≡ q = omega arith in
    let o = one_more (q + 1) s (omega arith) in
    let x : (q + 1) * s ≡ q * s + s = o ∙ rw y in
    record { some = omega arith; before = rw y (omega arith); enough = omega arith; left = rw y (omega arith) }

-- the last group's blocks: a whole group where nothing is left over
pub last_of : ℕ → ℕ → ℕ
last_of d s = when (eqb (d % s) 0) s (d % s)

pub counted : (d s : ℕ) → 0 < d → 0 < s → Counted d s (ceil_div d s) (last_of d s)
unfolding ceil_div last_of
counted d s h k = counted-at d s (d / s) (d % s) (eqb (d % s) 0) refl h k (mod-lt d k) (div-add-mod' d s)

last-at : (s r least : ℕ) (t : Bool) → (not t && ltb r least) ≡ false → least ≤ s → least ≤ when t s r
unfolding when
last-at s r least true e h = h
last-at s r least false e h = ltb-false r least e

-- a last group that is not short has the least size
pub last-least : (d s least : ℕ) → (not (eqb (d % s) 0) && ltb (d % s) least) ≡ false → least ≤ s → least ≤ last_of d s
unfolding last_of
last-least d s least e h = last-at s (d % s) least (eqb (d % s) 0) e h

-- a quotient rounded up is at most k where k times the divisor is enough
pub ceil-most : (a b k : ℕ) → 0 < a → 0 < b → a ≤ k * b → ceil_div a b ≤ k
ceil-most a b k h p e =
    let c = counted a b h p in
    let w : ceil_div a b - 1 < k = lt_of_mul-lt-mul_right b (let v = c.before in omega arith) in
    omega (arith, c.some, w)

-- no group is longer than s, the last neither
pub group-within : (d s n k : ℕ) (t : Bool) → eqb k (n - 1) ≡ t → d ≤ n * s → k < n → when t (d - k * s) s ≤ s
unfolding when
group-within d s n k true e w h =
    let i : k ≡ n - 1 = eqb-true k (n - 1) e in
    let o = one_more n s (omega arith) in
    let v = ap (λ (x : ℕ). x * s) i in
    omega arith
group-within d s n k false e w h = omega arith
