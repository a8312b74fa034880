-- Four bytes, and eight, go into the register as a number.
-- Assumes nothing.
use mathlib.Core.Path.{◌≡◌, ap, ap₂, sym, ◌∙◌}
use mathlib.Core.List.{List}
use Prim.Native.Nat.{ℕ, suc, ◌+◌, ◌*◌, ◌/◌, ◌%◌, ◌<◌, ◌≤◌}
use native.Mathlib.Nat.{mod-lt, add-zero, div-eq_of_lt}
use native.Mathlib.Omega.{arith}
use native.Mathlib.Numerals.{add-one}
use lib.Dec.{lit<}
use lib.ListN.{get_or, length, drop, drop_of_length-le}
use lib.Seq.{drop-cons}
use lib.Bits.{bit_xor, xor_shifted, xor_zero_r, xor_comm}
use Rattle.crc_register.proofs.Xor.{xor_assoc}
use Rattle.crc_register.proofs.Register.{bits-sum, bits_in, bits-high, byte-in}
use Rattle.crc_register.specs.Register.{crc_bits, crc_bytes}
use Rattle.endian_little.specs.Bytes.{le_at}
use Rattle.crc_register.proofs.Linear.{bits-add}

-- the low byte, and the rest, moved
pub peel-byte : (m x : ℕ) → crc_bits (8 + m) x 0 ≡ bit_xor (crc_bits (8 + m) (x % 256) 0) (crc_bits m (x / 256) 0)
peel-byte m x =
    let s : x ≡ bit_xor (x / 256 * 256) (x % 256) = sym (xor_shifted (x / 256) 8 (x % 256) (mod-lt x (lit< tt)) ∙ omega arith) in
    ap (λ (k : ℕ). crc_bits (8 + m) k 0) s ∙ bits-sum (8 + m) (x / 256 * 256) (x % 256)
    ∙ xor_comm (crc_bits (8 + m) (x / 256 * 256) 0) (crc_bits (8 + m) (x % 256) 0)
    ∙ ap (bit_xor (crc_bits (8 + m) (x % 256) 0)) (bits-add 8 m (x / 256 * 256) ∙ ap (λ (k : ℕ). crc_bits m k 0) (bits-high 8 (x / 256)))

-- the four bytes of a register by four tables
pub fold-four : (j x a b c d : ℕ) → a ≡ crc_bits (8 + 8 * (j + 3)) (x % 256) 0 → b ≡ crc_bits (8 + 8 * (j + 2)) (x / 256 % 256) 0
    → c ≡ crc_bits (8 + 8 * (j + 1)) (x / 256 / 256 % 256) 0 → d ≡ crc_bits (8 + 8 * j) (x / 256 / 256 / 256) 0
    → bit_xor a (bit_xor b (bit_xor c d)) ≡ crc_bits (32 + 8 * j) x 0
fold-four j x a b c d ea eb ec ed =
    let m2 : 8 * (j + 1) ≡ 8 + 8 * j = omega arith in
    let m3 : 8 * (j + 2) ≡ 8 + 8 * (j + 1) = omega arith in
    let m4 : 8 * (j + 3) ≡ 8 + 8 * (j + 2) = omega arith in
    let m5 : 8 + 8 * (j + 3) ≡ 32 + 8 * j = omega arith in
    let p2 : bit_xor c d ≡ crc_bits (8 + 8 * (j + 1)) (x / 256 / 256) 0 =
    ap₂ bit_xor ec (ed ∙ ap (λ (k : ℕ). crc_bits k (x / 256 / 256 / 256) 0) (sym m2)) ∙ sym (peel-byte (8 * (j + 1)) (x / 256 / 256)) in
    let p3 : bit_xor b (bit_xor c d) ≡ crc_bits (8 + 8 * (j + 2)) (x / 256) 0 =
    ap₂ bit_xor eb (p2 ∙ ap (λ (k : ℕ). crc_bits k (x / 256 / 256) 0) (sym m3)) ∙ sym (peel-byte (8 * (j + 2)) (x / 256)) in
    ap₂ bit_xor ea (p3 ∙ ap (λ (k : ℕ). crc_bits k (x / 256) 0) (sym m4)) ∙ sym (peel-byte (8 * (j + 3)) x)
    ∙ ap (λ (k : ℕ). crc_bits k x 0) m5

-- a byte, with more above it
byte-under : (c b v : ℕ) → b < 256 → crc_bits 8 (bit_xor c (b + 256 * v)) 0 ≡ bit_xor (crc_bits 8 c b) v
byte-under c b v h =
    let z : b / 256 ≡ 0 = div-eq_of_lt h in
    let s : b + 256 * v ≡ bit_xor b (v * 256) = (let e : b + 256 * v ≡ v * 256 + b = omega arith in e) ∙ sym (xor_shifted v 8 b h) ∙ xor_comm (v * 256) b in
    ap (λ (k : ℕ). crc_bits 8 (bit_xor c k) 0) s ∙ ap (λ (k : ℕ). crc_bits 8 k 0) (sym (xor_assoc c b (v * 256)))
    ∙ bits-sum 8 (bit_xor c b) (v * 256)
    ∙ ap₂ bit_xor (sym (bits_in 8 c b) ∙ ap (bit_xor (crc_bits 8 c b)) z ∙ xor_zero_r (crc_bits 8 c b)) (bits-high 8 v)

byte-top : (c b : ℕ) → b < 256 → crc_bits 8 (bit_xor c b) 0 ≡ crc_bits 8 c b
byte-top c b h = sym (bits_in 8 c b) ∙ ap (bit_xor (crc_bits 8 c b)) (div-eq_of_lt h) ∙ xor_zero_r (crc_bits 8 c b)

four-in : (c p q r s : ℕ) → p < 256 → q < 256 → r < 256 → s < 256
    → crc_bits 32 (bit_xor c (p + 256 * (q + 256 * (r + 256 * (s + 256 * 0))))) 0 ≡ crc_bits 8 (crc_bits 8 (crc_bits 8 (crc_bits 8 c p) q) r) s
four-in c p q r s hp hq hr hs =
    let v3 = s + 256 * 0 in
    let v2 = r + 256 * v3 in
    let v1 = q + 256 * v2 in
    let c1 = crc_bits 8 c p in
    let c2 = crc_bits 8 c1 q in
    let c3 = crc_bits 8 c2 r in
    bits-add 8 24 (bit_xor c (p + 256 * v1)) ∙ ap (λ (k : ℕ). crc_bits 24 k 0) (byte-under c p v1 hp)
    ∙ bits-add 8 16 (bit_xor c1 v1) ∙ ap (λ (k : ℕ). crc_bits 16 k 0) (byte-under c1 q v2 hq)
    ∙ bits-add 8 8 (bit_xor c2 v2) ∙ ap (λ (k : ℕ). crc_bits 8 k 0) (byte-under c2 r v3 hr)
    ∙ ap (λ (k : ℕ). crc_bits 8 (bit_xor c3 k) 0) (add-zero s) ∙ byte-top c3 s hs

-- four bytes of a list
pub four-turn : (c i : ℕ) (xs : List ℕ) → i + 4 ≤ length xs → ((k : ℕ) → get_or xs k 0 < 256)
    → crc_bytes c (drop i xs) ≡ crc_bytes (crc_bits 32 (bit_xor c (le_at 4 i xs)) 0) (drop (i + 4) xs)
unfolding crc_bytes le_at
four-turn c i xs h w =
    ap (crc_bytes c) (drop-cons xs i 0 (omega arith))
    ∙ ap (crc_bytes (crc_bits 8 c (get_or xs i 0))) (drop-cons xs (suc i) 0 (omega arith))
    ∙ ap (crc_bytes (crc_bits 8 (crc_bits 8 c (get_or xs i 0)) (get_or xs (suc i) 0))) (drop-cons xs (suc (suc i)) 0 (omega arith))
    ∙ ap (crc_bytes (crc_bits 8 (crc_bits 8 (crc_bits 8 c (get_or xs i 0)) (get_or xs (suc i) 0)) (get_or xs (suc (suc i)) 0))) (drop-cons xs (suc (suc (suc i))) 0 (omega arith))
    ∙ ap₂ crc_bytes (sym (four-in c (get_or xs i 0) (get_or xs (suc i) 0) (get_or xs (suc (suc i)) 0) (get_or xs (suc (suc (suc i))) 0) (w i) (w (suc i)) (w (suc (suc i))) (w (suc (suc (suc i))))))
    (ap (λ (k : ℕ). drop k xs) (let e : suc (suc (suc (suc i))) ≡ i + 4 = omega arith in e))

-- two words, the register in the first
pub eight-turn : (c i a b from : ℕ) (xs : List ℕ) → i + 8 ≤ length xs → ((k : ℕ) → get_or xs k 0 < 256)
    → a ≡ crc_bits 64 (bit_xor c (le_at 4 i xs)) 0 → b ≡ crc_bits 32 (le_at 4 (i + 4) xs) 0
    → crc_bytes c (drop i xs) ≡ crc_bytes from xs → crc_bytes (bit_xor a b) (drop (i + 8) xs) ≡ crc_bytes from xs
eight-turn c i a b from xs h w ea eb e =
    let d = crc_bits 32 (bit_xor c (le_at 4 i xs)) 0 in
    let j : i + 4 + 4 ≡ i + 8 = omega arith in
    let s : bit_xor a b ≡ crc_bits 32 (bit_xor d (le_at 4 (i + 4) xs)) 0 =
    ap₂ bit_xor (ea ∙ bits-add 32 32 (bit_xor c (le_at 4 i xs))) eb ∙ sym (bits-sum 32 d (le_at 4 (i + 4) xs)) in
    ap₂ crc_bytes s (ap (λ (k : ℕ). drop k xs) (sym j)) ∙ sym (four-turn d (i + 4) xs (omega arith) w) ∙ sym (four-turn c i xs (omega arith) w) ∙ e

-- a byte by the first of the tables
pub look-byte : (c b v : ℕ) → b < 256 → v ≡ crc_bits (8 + 8 * 0) (bit_xor c b % 256) 0 → bit_xor v (c / 256) ≡ crc_bits 8 c b
look-byte c b v h e = ap (λ (k : ℕ). bit_xor k (c / 256)) e ∙ sym (byte-in c b h)

pub look-turn : (c b w v : ℕ) → w ≡ b → w < 256 → v ≡ crc_bits (8 + 8 * 0) (bit_xor c w % 256) 0 → bit_xor v (c / 256) ≡ crc_bits 8 c b
look-turn c b w v ew h e = look-byte c w v h e ∙ ap (crc_bits 8 c) ew

pub turn-to : (c d i g : ℕ) (xs : List ℕ) → i < length xs → d ≡ crc_bits 8 c (get_or xs i 0) → crc_bytes c (drop i xs) ≡ g → crc_bytes d (drop (i + 1) xs) ≡ g
unfolding crc_bytes
turn-to c d i g xs h s e = rw (s, add-one) (ap (crc_bytes c) (sym (drop-cons xs i 0 h)) ∙ e)

pub ends_at : (c i g : ℕ) (xs : List ℕ) → length xs ≤ i → crc_bytes c (drop i xs) ≡ g → c ≡ g
unfolding crc_bytes
ends_at c i g xs h e = ap (crc_bytes c) (sym (drop_of_length-le xs h)) ∙ e
