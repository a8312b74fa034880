-- The register takes in a byte as a whole: a law for each number of bits.
-- Assumes nothing.
use mathlib.Core.Path.{◌≡◌, refl, ap, ap₂, sym, ◌∙◌}
use mathlib.Core.List.{List, [], ◌∷◌, ◌++◌}
use Prim.Native.Nat.{ℕ, zero, suc, ◌+◌, ◌-◌, ◌*◌, ◌/◌, ◌%◌, ◌^◌, ◌<◌, ◌≤◌}
use native.Mathlib.Nat.{mod-lt, add-zero, div-one, div-eq_of_lt, pow-suc, mul_assoc, div-div-eq-div-mul, mul_comm, mul-one, le_of_eq}
use native.Mathlib.Omega.{arith}
use native.Mathlib.Numerals.{add-one}
use lib.Dec.{lit<}
use lib.ListN.{get_or, length, take, drop, drop_of_length-le, length-drop}
use lib.Seq.{drop-cons, take_all}
use lib.Bits.{bit_xor, xor_zero_r, xor_comm, xor_shifted, xor_shr}
use Rattle.endian.proofs.Laws.{patch-split}
use Rattle.crc_register.proofs.Xor.{by-digit, xor-half, xor-odd, xor_assoc, xor-four}
use Rattle.crc_register.specs.Register.{polynomial, crc_bit, crc_bits, crc_bytes, zeroed}

-- the number that programs have for it
pub polynomial-is : polynomial ≡ 0x82f6_3b78
polynomial-is = refl

-- the polynomial is added twice, or once, or not at all
sums : (x y : ℕ) → (x + y) % 2 * polynomial ≡ bit_xor (x % 2 * polynomial) (y % 2 * polynomial)
sums x y =
    let e : (x + y) % 2 ≡ (x % 2 + y % 2) % 2 = omega arith in
    ap (λ (k : ℕ). k * polynomial) e
    ∙ by-digit (λ (p : ℕ). (p + y % 2) % 2 * polynomial ≡ bit_xor (p * polynomial) (y % 2 * polynomial))
    (by-digit (λ (q : ℕ). (0 + q) % 2 * polynomial ≡ bit_xor (0 * polynomial) (q * polynomial)) refl refl (y % 2) (mod-lt y (lit< tt)))
    (by-digit (λ (q : ℕ). (1 + q) % 2 * polynomial ≡ bit_xor (1 * polynomial) (q * polynomial)) refl refl (y % 2) (mod-lt y (lit< tt)))
    (x % 2) (mod-lt x (lit< tt))

-- a bit goes in: the two ways to write it
bit_in : (c b : ℕ) → bit_xor (crc_bit c b) (b / 2) ≡ crc_bit (bit_xor c b) 0
unfolding crc_bit
bit_in c b =
    xor_assoc (c / 2) ((c + b) % 2 * polynomial) (b / 2)
    ∙ ap (bit_xor (c / 2)) (xor_comm ((c + b) % 2 * polynomial) (b / 2))
    ∙ sym (xor_assoc (c / 2) (b / 2) ((c + b) % 2 * polynomial))
    ∙ ap₂ (λ (x y : ℕ). bit_xor x (y * polynomial)) (sym (xor-half c b)) (sym (xor-odd c b) ∙ ap (λ (k : ℕ). k % 2) (sym (add-zero (bit_xor c b))))

-- n bits go in: as if the number was there from the start
pub bits_in : (n c b : ℕ) → bit_xor (crc_bits n c b) (b / 2 ^ n) ≡ crc_bits n (bit_xor c b) 0
unfolding crc_bits
bits_in zero c b = ap (bit_xor c) (div-one b)
bits_in (suc n) c b =
    ap (bit_xor (crc_bits n (crc_bit c b) (b / 2))) (let e : 2 ^ suc n ≡ 2 * 2 ^ n = pow-suc 2 n ∙ mul_comm (2 ^ n) 2 in ap (λ (k : ℕ). b / k) e ∙ sym (div-div-eq-div-mul b 2 (2 ^ n)))
    ∙ bits_in n (crc_bit c b) (b / 2)
    ∙ ap (λ (k : ℕ). crc_bits n k 0) (bit_in c b)

-- the register is linear
bit-sum : (x y : ℕ) → crc_bit (bit_xor x y) 0 ≡ bit_xor (crc_bit x 0) (crc_bit y 0)
unfolding crc_bit
bit-sum x y =
    simp add-zero
    (ap₂ (λ (p q : ℕ). bit_xor p (q * polynomial)) (xor-half x y) (xor-odd x y)
    ∙ ap (bit_xor (bit_xor (x / 2) (y / 2))) (sums x y)
    ∙ xor-four (x / 2) (y / 2) (x % 2 * polynomial) (y % 2 * polynomial))

pub bits-sum : (n x y : ℕ) → crc_bits n (bit_xor x y) 0 ≡ bit_xor (crc_bits n x 0) (crc_bits n y 0)
unfolding crc_bits
bits-sum zero x y = refl
bits-sum (suc n) x y = ap (λ (k : ℕ). crc_bits n k 0) (bit-sum x y) ∙ bits-sum n (crc_bit x 0) (crc_bit y 0)

-- zeros only move
pub bit-even : (y : ℕ) → crc_bit (y * 2) 0 ≡ y
unfolding crc_bit
bit-even y =
    let e : (y * 2 + 0) % 2 ≡ 0 = omega arith in
    let h : y * 2 / 2 ≡ y = omega arith in
    ap₂ (λ (p q : ℕ). bit_xor p (q * polynomial)) h e ∙ xor_zero_r y

pub bits-high : (n y : ℕ) → crc_bits n (y * 2 ^ n) 0 ≡ y
unfolding crc_bits
bits-high zero y = mul-one y
bits-high (suc n) y =
    ap (λ (k : ℕ). crc_bits n (crc_bit k 0) 0) (ap (λ (k : ℕ). y * k) (pow-suc 2 n) ∙ sym (mul_assoc y (2 ^ n) 2))
    ∙ ap (λ (k : ℕ). crc_bits n k 0) (bit-even (y * 2 ^ n))
    ∙ bits-high n y

-- a byte goes in: what the table says of the register's low byte, and the rest, moved
pub byte-in : (c b : ℕ) → b < 256 → crc_bits 8 c b ≡ bit_xor (crc_bits 8 (bit_xor c b % 256) 0) (c / 256)
byte-in c b h =
    let x = bit_xor c b in
    let s : x ≡ bit_xor (x / 256 * 256) (x % 256) = sym (xor_shifted (x / 256) 8 (x % 256) (mod-lt x (lit< tt)) ∙ omega arith) in
    let z : b / 256 ≡ 0 = div-eq_of_lt h in
    let t : x / 256 ≡ c / 256 = xor_shr c b 8 ∙ ap (bit_xor (c / 256)) z ∙ xor_zero_r (c / 256) in
    sym (xor_zero_r (crc_bits 8 c b)) ∙ ap (bit_xor (crc_bits 8 c b)) (sym z) ∙ bits_in 8 c b
    ∙ ap (λ (k : ℕ). crc_bits 8 k 0) s
    ∙ bits-sum 8 (x / 256 * 256) (x % 256)
    ∙ ap (λ (k : ℕ). bit_xor k (crc_bits 8 (x % 256) 0)) (bits-high 8 (x / 256) ∙ t)
    ∙ xor_comm (c / 256) (crc_bits 8 (x % 256) 0)

-- a turn of the loop of `update`
pub update-turn : (c c' from i : ℕ) (xs : List ℕ) → i < length xs → c' ≡ crc_bits 8 c (get_or xs i 0) → crc_bytes c (drop i xs) ≡ crc_bytes from xs
    → crc_bytes c' (drop (i + 1) xs) ≡ crc_bytes from xs
unfolding crc_bytes
update-turn c c' from i xs h s e =
    rw (s, add-one) (ap (crc_bytes c) (sym (drop-cons xs i 0 h)) ∙ e)

pub update-ends : (c from i : ℕ) (xs : List ℕ) → length xs ≤ i → crc_bytes c (drop i xs) ≡ crc_bytes from xs → c ≡ crc_bytes from xs
unfolding crc_bytes
update-ends c from i xs h e = ap (crc_bytes c) (sym (drop_of_length-le xs h)) ∙ e

pub bytes-append : (c : ℕ) (xs ys : List ℕ) → crc_bytes c (xs ++ ys) ≡ crc_bytes (crc_bytes c xs) ys
unfolding crc_bytes
bytes-append c [] ys = refl
bytes-append c (x ∷ xs) ys = bytes-append (crc_bits 8 c x) xs ys

-- `&xs[n..]`, as the borrow checker has it
rest : (n : ℕ) (xs : List ℕ) → take (length xs - n) (drop n xs) ≡ drop n xs
rest n xs = take_all (length xs - n) (drop n xs) (le_of_eq (length-drop n xs))

-- the part before four bytes that are read as zero, these, and the part after them
pub in_three : (off from a b c : ℕ) (xs : List ℕ) → off + 4 ≤ length xs
    → a ≡ crc_bytes from (take off xs) → b ≡ crc_bytes a (0 ∷ 0 ∷ 0 ∷ 0 ∷ []) → c ≡ crc_bytes b (take (length xs - (off + 4)) (drop (off + 4) xs))
    → c ≡ crc_bytes from (zeroed off xs)
in_three off from a b c xs h ea eb ec =
    ec ∙ ap (crc_bytes b) (rest (off + 4) xs) ∙ ap (λ (k : ℕ). crc_bytes k (drop (off + 4) xs)) (eb ∙ ap (λ (k : ℕ). crc_bytes k (0 ∷ 0 ∷ 0 ∷ 0 ∷ [])) ea)
    ∙ sym (ap (crc_bytes from) (patch-split off (0 ∷ 0 ∷ 0 ∷ 0 ∷ []) xs h)
    ∙ bytes-append from (take off xs) ((0 ∷ 0 ∷ 0 ∷ 0 ∷ []) ++ drop (off + 4) xs)
    ∙ bytes-append (crc_bytes from (take off xs)) (0 ∷ 0 ∷ 0 ∷ 0 ∷ []) (drop (off + 4) xs))
