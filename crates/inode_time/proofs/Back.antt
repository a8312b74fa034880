-- A time that an inode can store is read back; and where the ranges end.
-- Assumes nothing.
use mathlib.Core.Path.{◌≡◌, refl, ap, ap₂, ◌∙◌}
use mathlib.Core.Bool.{Bool, true, false, ◌&&◌}
use Prim.Native.Nat.{ℕ, suc, ◌+◌, ◌-◌, ◌*◌, ◌/◌, ◌%◌, ◌^◌, ◌<◌}
use native.Mathlib.Omega.{arith}
use lib.Dec.{ltb}
use lib.IntN.{ℤ, pos, negsuc, ◌-ℤ◌}
use borrow.Author.Tests.{lt-ltb, le-ltb, ltb-true, leb-true}
use Rattle.inode_time.specs.Time.{second, epoch, not_early, shifted, in32, time_inside, time_raw, signed32, decoded}

first : (a b : Bool) → a && b ≡ true → a ≡ true
first true b e = refl
first false b e = e

other : (a b : Bool) → a && b ≡ true → b ≡ true
other true b e = e
other false b e = cc

unshift : (s : ℤ) → not_early s ≡ true → pos (shifted s) -ℤ pos epoch ≡ s
unfolding not_early shifted
unshift (pos k) t =
    let g : k + epoch - epoch ≡ k = omega arith in
    rw (le-ltb (k + epoch) epoch (omega arith)) (ap pos g)
unshift (negsuc k) t =
    let h = leb-true (suc k) epoch t in
    let g : epoch - suc (epoch - suc k) ≡ k = omega arith in
    rw (lt-ltb (epoch - suc k) epoch (omega arith)) (ap negsuc g)

unsign : (s : ℤ) → not_early s ≡ true → shifted s < 2 ^ 32 → signed32 (in32 s) ≡ s
unfolding not_early shifted in32 signed32
unsign (pos k) t l = rw (lt-ltb k (2 ^ 31) (omega arith)) refl
unsign (negsuc k) t l =
    let h = leb-true (suc k) epoch t in
    let g : 2 ^ 32 - suc (2 ^ 32 - suc k) ≡ k = omega arith in
    rw (le-ltb (2 ^ 32 - suc k) (2 ^ 31) (omega arith), lt-ltb (2 ^ 32 - suc k) (2 ^ 32) (omega arith)) (ap negsuc g)

-- decoding after encoding is the identity on the accepted times, with and without bigtime
pub time-back : (big : Bool) (s : ℤ) (n : ℕ) → time_inside big s n ≡ true → decoded big (time_raw big s n) ≡ record { secs = s; nsecs = n }
unfolding time_inside time_raw decoded
time-back true s n t =
    let h = ltb-true n second (first (ltb n second) _ t) in
    let e = first (not_early s) _ (other (ltb n second) _ t) in
    let q : (shifted s * second + n) / second ≡ shifted s = omega arith in
    let r : (shifted s * second + n) % second ≡ n = omega arith in
    ap₂ (λ (x : ℤ) (k : ℕ). record { secs = x; nsecs = k }) (ap (λ (k : ℕ). pos k -ℤ pos epoch) q ∙ unshift s e) r
time-back false s n t =
    let h = ltb-true n second (first (ltb n second) _ t) in
    let u = other (ltb n second) _ t in
    let e = first (not_early s) _ u in
    let l = ltb-true (shifted s) (2 ^ 32) (other (not_early s) _ u) in
    let q : (in32 s * 2 ^ 32 + n) / 2 ^ 32 ≡ in32 s = omega arith in
    let r : (in32 s * 2 ^ 32 + n) % 2 ^ 32 ≡ n = omega arith in
    ap₂ (λ (x : ℤ) (k : ℕ). record { secs = x; nsecs = k }) (ap signed32 q ∙ unsign s e l) r

-- the ends of the ranges: the last that is accepted and the first that is not
pub record Ends : Type 0 where
  pub least : (time_inside false (negsuc 2147483647) 0 ≡ true) × (time_inside false (negsuc 2147483648) 999999999 ≡ false)
  pub greatest : (time_inside false (pos 2147483647) 999999999 ≡ true) × (time_inside false (pos 2147483648) 0 ≡ false)
  pub least-big : (time_inside true (negsuc 2147483647) 0 ≡ true) × (time_inside true (negsuc 2147483648) 999999999 ≡ false)
  pub greatest-big : (time_inside true (pos 16299260425) 709551615 ≡ true) × (time_inside true (pos 16299260425) 709551616 ≡ false)
  pub nanoseconds : (time_inside false (pos 0) 1000000000 ≡ false) × (time_inside true (pos 0) 1000000000 ≡ false)

pub ends : Ends
unfolding time_inside not_early shifted
ends = record { least = (refl, refl); greatest = (refl, refl); least-big = (refl, refl); greatest-big = (refl, refl); nanoseconds = (refl, refl) }
