-- A product by halves: the two high halves' product and what passes the middle falls out of 64 bits.
-- Assumes nothing.
use Rattle.std.proofs.Common.{◌≡◌, ℕ, ◌+◌, ◌*◌, ◌/◌, ◌%◌, ◌^◌, ◌<◌, ◌≤◌, sym, ap, ◌∙◌, ap₂, mul_assoc, add-mul, mul-le-mul_left, mul-add, mul_right_comm, arith}
use native.Mathlib.Nat.{mul-mul-mul_comm, add-mul-mod_self_right}

-- the product of two numbers of 32 bits fits 64
pub halves-fit : (a b : ℕ) → a < 2 ^ 32 → b < 2 ^ 32 → a * b < 2 ^ 64
halves-fit a b h k =
    let x : a * b ≤ a * 4294967295 = mul-le-mul_left a (let g : b ≤ 4294967295 = omega arith in g) in
    omega arith

-- the four products
expand : (h ah al bh bl : ℕ) → (ah * h + al) * (bh * h + bl) ≡ al * bl + (ah * bl + al * bh) * h + ah * bh * (h * h)
expand h ah al bh bl =
    let a = add-mul (ah * h) al (bh * h + bl) in
    let b = mul-add (ah * h) (bh * h) bl in
    let c = mul-add al (bh * h) bl in
    let d = mul-mul-mul_comm ah h bh h in
    let e = mul_right_comm ah h bl in
    let f = mul_assoc al bh h in
    let g = add-mul (ah * bl) (al * bh) h in
    omega arith

-- what is left of them in 64 bits
pub wrapped : (a b low left right : ℕ) → low ≡ a % 4294967296 * (b % 4294967296) → left ≡ a / 4294967296 * (b % 4294967296) → right ≡ a % 4294967296 * (b / 4294967296)
    → (low + (left % 4294967296 + right % 4294967296) % 4294967296 * 4294967296) % 2 ^ 64 ≡ (a * b) % 2 ^ 64
wrapped a b low left right el em er =
    let ah = a / 4294967296 in
    let al = a % 4294967296 in
    let bh = b / 4294967296 in
    let bl = b % 4294967296 in
    let ea : a ≡ ah * 4294967296 + al = omega arith in
    let eb : b ≡ bh * 4294967296 + bl = omega arith in
    let p : a * b ≡ al * bl + (ah * bl + al * bh) * 4294967296 + ah * bh * 18446744073709551616 = ap₂ (λ (x y : ℕ). x * y) ea eb ∙ expand 4294967296 ah al bh bl in
    let m = (left % 4294967296 + right % 4294967296) % 4294967296 in
    let k = left / 4294967296 + right / 4294967296 + (left % 4294967296 + right % 4294967296) / 4294967296 in
    let q : a * b ≡ low + m * 4294967296 + (ah * bh + k) * 18446744073709551616 = omega (arith, p, el, em, er) in
    sym (ap (λ (x : ℕ). x % 2 ^ 64) q ∙ add-mul-mod_self_right (low + m * 4294967296) (ah * bh + k) (2 ^ 64))
