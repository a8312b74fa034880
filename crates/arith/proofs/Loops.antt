-- The least power of two that a number doesn't exceed: what its definition says of the one that the library gives.
-- Assumes nothing.
use mathlib.Core.Path.{◌≡◌, refl, sym, ◌∙◌}
use mathlib.Core.Logic.{⊎_elim}
use Prim.Native.Nat.{ℕ, zero, suc, ◌+◌, ◌-◌, ◌*◌, ◌/◌, ◌^◌, ◌≤◌, ◌<◌, max}
use native.Mathlib.Omega.{arith}
use native.Mathlib.Nat.{pow-suc, one-le-pow, eq-zero-or-pos}
use lib.Dec.{lit<}
use lib.Pow.{pow_mono}
use borrow.Author.Tests.{le-leb, lt-leb}
use Rattle.arith.specs.Choice.{when}
use Rattle.arith.specs.Powers.{least_from, log2_up}

pub least-here : (l n : ℕ) → l ≤ 63 → n ≤ 2 ^ l → least_from (64 - l) l n ≡ l
unfolding least_from when
least-here l n h t = let e : 64 - l ≡ suc (64 - (l + 1)) = omega arith in rw (e, le-leb n (2 ^ l) t)

pub least-next : (l n : ℕ) → l ≤ 63 → 2 ^ l < n → least_from (64 - l) l n ≡ least_from (64 - (l + 1)) (l + 1) n
unfolding least_from when
least-next l n h t = let e : 64 - l ≡ suc (64 - (l + 1)) = omega arith in rw (e, lt-leb n (2 ^ l) t)

least-up : (k n : ℕ) → k ≤ 64 → ((j : ℕ) → j < k → 2 ^ j < n) → least_from (64 - k) k n ≡ log2_up n
unfolding log2_up
least-up zero n l h = refl
least-up (suc k) n l h =
    let s : suc k ≡ k + 1 = omega arith in
    rw s (sym (least-next k n (omega arith) (h k (omega arith))) ∙ least-up k n (omega arith) (λ j m. h j (omega arith)))

-- powers that are apart
apart : (i j : ℕ) → i < j → 2 * 2 ^ i ≤ 2 ^ j
apart i j h =
    let m : 2 ^ suc i ≤ 2 ^ j = pow_mono (omega arith) in
    omega (arith, pow-suc 2 i, m)

same-power : (k r : ℕ) → 2 ^ r ≤ 2 ^ k → 2 ^ k < 2 * 2 ^ r → k ≡ r
same-power k r a b =
    ⊎_elim (λ (z : r - k ≡ 0). ⊎_elim (λ (y : k - r ≡ 0). omega arith) (λ (y : 0 < k - r). absurd (omega (arith, apart r k (omega arith)))) (eq-zero-or-pos (k - r)))
    (λ (z : 0 < r - k). absurd (omega (arith, apart k r (omega arith), one-le-pow k 2 (lit< tt)))) (eq-zero-or-pos (r - k))

-- the logarithm of the next power of two
pub least-is : (n p r : ℕ) → (k : ℕ) × (p ≡ 2 ^ k) → n ≤ p → p / 2 < max 1 n → 2 ^ r ≤ p → p < 2 * 2 ^ r → r < 64 → r ≡ log2_up n
least-is n p r (k, e) l h a b c =
    let s : k ≡ r = same-power k r (omega (arith, e)) (omega (arith, e)) in
    sym s ∙ sym (least-here k n (omega arith) (omega (arith, e)))
    ∙ least-up k n (omega arith) (λ j m. omega (arith, e, apart j k m, one-le-pow j 2 (lit< tt)))

-- no power of 64 bits is enough
pub least-none : (n : ℕ) → 2 ^ 63 < n → 64 ≡ log2_up n
unfolding least_from
least-none n h = least-up 64 n (omega arith) (λ j m. let p : 2 ^ j ≤ 2 ^ 63 = pow_mono {j = 63} (omega arith) in omega arith)
