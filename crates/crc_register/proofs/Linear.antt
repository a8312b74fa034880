-- Zero bits are a linear map of the register: what its tables say, for any number of bits.
-- Assumes nothing.
use mathlib.Core.Path.{◌≡◌, refl, ap, ap₂, sym, ◌∙◌}
use mathlib.Core.List.{List, [], ◌∷◌, ◌++◌, map}
use Prim.Native.Nat.{ℕ, zero, suc, ◌+◌, ◌-◌, ◌*◌, ◌/◌, ◌%◌, ◌^◌, ◌<◌, ◌≤◌}
use native.Mathlib.Nat.{mod-lt, add-zero, zero-add, suc-add, suc-mul, pow-suc, mul_assoc, mul_comm, mul-one, mul-zero, one-mul, zero-mul, mul-add, add-mul, div-add-mod', add_comm, eq-zero-or-pos}
use mathlib.Core.Logic.{⊎_elim}
use native.Mathlib.Omega.{arith}
use native.Mathlib.Numerals.{add-one}
use lib.Dec.{lit<, lit≤}
use Rattle.endian.specs.Bytes.{patch}
use Rattle.endian.proofs.Laws.{take-patch, drop-patch}
use lib.Pow.{pow_pos, pow-lt}
use lib.ListN.{get_or, length, take, drop, replicate, length-map, get_or-append, length-drop, length-replicate, get_or-replicate, take-append-drop}
use lib.Seq.{get_or-append-add, ext_get_or, get_or-drop}
use lib.Bits.{bit_xor, xor_shifted, xor_zero_r, xor_comm, xor_lt, bit_or, or_add_and, and_le_l, and_le_r}
use Rattle.crc_register.proofs.Xor.{by-digit, xor_assoc}
use Rattle.crc_register.proofs.Register.{bits-sum, byte-in, bytes-append, update-turn}
use Rattle.crc_register.specs.Register.{polynomial, crc_bit, crc_bits, crc_bytes, zeroed}
use Rattle.crc_register.specs.Tables.{register_table, itself, power_of_two, through, tables_made, row, byte_table, leap_table, zero_byte, slice_table}

-- ---- bits after bits
pub bits-add : (m n c : ℕ) → crc_bits (m + n) c 0 ≡ crc_bits n (crc_bits m c 0) 0
unfolding crc_bits
bits-add zero n c = ap (λ (k : ℕ). crc_bits k c 0) (zero-add n)
bits-add (suc m) n c = ap (λ (k : ℕ). crc_bits k c 0) (suc-add m n) ∙ bits-add m n (crc_bit c 0)

pub bits_none : (m : ℕ) → crc_bits m 0 0 ≡ 0
unfolding crc_bits crc_bit
bits_none zero = refl
bits_none (suc m) = bits_none m

no_bits : (c : ℕ) → crc_bits 0 c 0 ≡ c
unfolding crc_bits
no_bits c = refl

pub zero-bytes : (n c : ℕ) → crc_bytes c (replicate n 0) ≡ crc_bits (8 * n) c 0
unfolding crc_bytes
zero-bytes zero c = sym (no_bits c)
zero-bytes (suc n) c =
    zero-bytes n (crc_bits 8 c 0) ∙ sym (bits-add 8 (8 * n) c)
    ∙ ap (λ (k : ℕ). crc_bits k c 0) (let e : 8 + 8 * n ≡ 8 * suc n = omega arith in e)

-- the register keeps its width
bit-lt : (c : ℕ) → c < 2 ^ 32 → crc_bit c 0 < 2 ^ 32
unfolding crc_bit
bit-lt c h = xor_lt 32 (c / 2) ((c + 0) % 2 * polynomial) (omega arith) (let l : (c + 0) % 2 * 0x82f6_3b78 < 2 ^ 32 = omega arith in l)

pub bits-lt : (m c : ℕ) → c < 2 ^ 32 → crc_bits m c 0 < 2 ^ 32
unfolding crc_bits
bits-lt zero c h = h
bits-lt (suc m) c h = bits-lt m (crc_bit c 0) (bit-lt c h)

-- ---- a bit of the register by itself
digit-in : (m i d : ℕ) → d < 2 → crc_bits m (d * 2 ^ i) 0 ≡ crc_bits m (2 ^ i) 0 * d
digit-in m i =
    by-digit (λ (d : ℕ). crc_bits m (d * 2 ^ i) 0 ≡ crc_bits m (2 ^ i) 0 * d)
    (ap (λ (k : ℕ). crc_bits m k 0) (zero-mul (2 ^ i)) ∙ bits_none m ∙ sym (mul-zero (crc_bits m (2 ^ i) 0)))
    (ap (λ (k : ℕ). crc_bits m k 0) (one-mul (2 ^ i)) ∙ sym (mul-one (crc_bits m (2 ^ i) 0)))

halves : (i x : ℕ) → x * 2 ^ i ≡ bit_xor (x / 2 * 2 ^ suc i) (x % 2 * 2 ^ i)
halves i x =
    let p = 2 ^ i in
    let e : 2 ^ suc i ≡ 2 * p = pow-suc 2 i ∙ mul_comm p 2 in
    let d : x % 2 * p < 2 ^ suc i = rw e (by-digit (λ (d : ℕ). d * p < 2 * p) (rw zero-mul (omega (arith, pow_pos i))) (rw one-mul (omega (arith, pow_pos i))) (x % 2) (mod-lt x (lit< tt))) in
    ap (λ (k : ℕ). k * p) (sym (div-add-mod' x 2)) ∙ add-mul (x / 2 * 2) (x % 2) p
    ∙ ap (λ (k : ℕ). k + x % 2 * p) (mul_assoc (x / 2) 2 p ∙ ap (λ (k : ℕ). x / 2 * k) (sym e))
    ∙ sym (xor_shifted (x / 2) (suc i) (x % 2 * p) d)

pub peel : (m i x : ℕ) → crc_bits m (x * 2 ^ i) 0 ≡ bit_xor (crc_bits m (2 ^ i) 0 * (x % 2)) (crc_bits m (x / 2 * 2 ^ suc i) 0)
peel m i x =
    ap (λ (k : ℕ). crc_bits m k 0) (halves i x) ∙ bits-sum m (x / 2 * 2 ^ suc i) (x % 2 * 2 ^ i)
    ∙ xor_comm (crc_bits m (x / 2 * 2 ^ suc i) 0) (crc_bits m (x % 2 * 2 ^ i) 0)
    ∙ ap (λ (k : ℕ). bit_xor k (crc_bits m (x / 2 * 2 ^ suc i) 0)) (digit-in m i (x % 2) (mod-lt x (lit< tt)))

-- ---- tables
pub made_at : (f : ℕ → ℕ) (m n i k : ℕ) → k < n → get_or (register_table f m n i) k 0 ≡ crc_bits m (f (i + k)) 0
unfolding register_table
made_at f m zero i k h = absurd (omega arith)
made_at f m (suc n) i zero h = ap (λ (j : ℕ). crc_bits m (f j) 0) (sym (add-zero i))
made_at f m (suc n) i (suc k) h = made_at f m n (suc i) k (omega arith) ∙ ap (λ (j : ℕ). crc_bits m (f j) 0) (let e : suc i + k ≡ i + suc k = omega arith in e)

pub length-made : (f : ℕ → ℕ) (m n i : ℕ) → length (register_table f m n i) ≡ n
unfolding register_table
length-made f m zero i = refl
length-made f m (suc n) i = ap suc (length-made f m n (suc i))

pub through-made : (m n i x : ℕ) → x < 2 ^ n → through (register_table power_of_two m n i) x ≡ crc_bits m (x * 2 ^ i) 0
unfolding register_table through
through-made m zero i x h =
    let e : x ≡ 0 = omega arith in
    sym (ap (λ (k : ℕ). crc_bits m k 0) (ap (λ (k : ℕ). k * 2 ^ i) e ∙ zero-mul (2 ^ i)) ∙ bits_none m)
through-made m (suc n) i x h =
    let e : 2 ^ suc n ≡ 2 ^ n * 2 = pow-suc 2 n in
    let l : x < 2 ^ n * 2 = rw e at h in
    ap (bit_xor (crc_bits m (2 ^ i) 0 * (x % 2))) (through-made m n (suc i) (x / 2) (omega (arith, l))) ∙ sym (peel m i x)

-- the table of twice as many bits
pub twice : (m n i : ℕ) → i + n ≤ 32 → map (through (register_table power_of_two m 32 0)) (register_table power_of_two m n i) ≡ register_table power_of_two (m + m) n i
unfolding register_table
twice m zero i h = refl
twice m (suc n) i h =
    ap₂ (λ (x : ℕ) (xs : List ℕ). x ∷ xs)
    (through-made m 32 0 (crc_bits m (2 ^ i) 0) (bits-lt m (2 ^ i) (pow-lt (let l : i < 32 = omega arith in l)))
    ∙ ap (λ (k : ℕ). crc_bits m k 0) (mul-one (crc_bits m (2 ^ i) 0)) ∙ sym (bits-add m m (2 ^ i)))
    (twice m n (suc i) (omega arith))

pub row-leap : (k m : ℕ) → row through k (register_table power_of_two m 32 0) ≡ register_table power_of_two (m * 2 ^ k) 32 0
unfolding row
row-leap zero m = ap (λ (j : ℕ). register_table power_of_two j 32 0) (sym (mul-one m))
row-leap (suc k) m =
    ap (row through k) (twice m 32 0 (lit≤ tt)) ∙ row-leap k (m + m)
    ∙ ap (λ (j : ℕ). register_table power_of_two j 32 0) (let e : m + m ≡ m * 2 = omega arith in ap (λ (j : ℕ). j * 2 ^ k) e ∙ mul_assoc m 2 (2 ^ k) ∙ ap (λ (j : ℕ). m * j) (mul_comm 2 (2 ^ k) ∙ sym (pow-suc 2 k)))

-- a zero byte more
pub longer : (m n i : ℕ) → map (zero_byte []) (register_table itself m n i) ≡ register_table itself (m + 8) n i
unfolding register_table
longer m zero i = refl
longer m (suc n) i = ap₂ (λ (x : ℕ) (xs : List ℕ). x ∷ xs) (sym (bits-add m 8 i)) (longer m n (suc i))

pub row-slice : (k m : ℕ) → row zero_byte k (register_table itself m 256 0) ≡ register_table itself (m + 8 * k) 256 0
unfolding row
row-slice zero m = ap (λ (j : ℕ). register_table itself j 256 0) (sym (add-zero m))
row-slice (suc k) m =
    ap (row zero_byte k) (longer m 256 0) ∙ row-slice k (m + 8)
    ∙ ap (λ (j : ℕ). register_table itself j 256 0) (let e : m + 8 + 8 * k ≡ m + 8 * suc k = omega arith in e)

-- the table at `k` of `n`, each of `w` entries
pub in_row : (g : List ℕ → ℕ → ℕ) (w n k i : ℕ) (t : List ℕ) → length t ≡ w → k < n → i < w → get_or (tables_made g n t) (k * w + i) 0 ≡ get_or (row g k t) i 0
unfolding tables_made row
in_row g w zero k i t e h l = absurd (omega arith)
in_row g w (suc n) zero i t e h l =
    ap (λ (j : ℕ). get_or (t ++ tables_made g n (map (g t) t)) j 0) (ap (λ (j : ℕ). j + i) (zero-mul w) ∙ zero-add i)
    ∙ get_or-append t (tables_made g n (map (g t) t)) 0 i (let h : i < length t = rw e l in h)
in_row g w (suc n) (suc k) i t e h l =
    ap (λ (j : ℕ). get_or (t ++ tables_made g n (map (g t) t)) j 0)
    (ap (λ (j : ℕ). j + i) (suc-mul k w) ∙ (let d : k * w + w + i ≡ w + (k * w + i) = omega arith in d) ∙ ap (λ (j : ℕ). j + (k * w + i)) (sym e))
    ∙ get_or-append-add t (tables_made g n (map (g t) t)) (k * w + i) 0
    ∙ in_row g w n k i (map (g t) t) (length-map t (g t) ∙ e) (omega arith) l

-- ---- what the functions' tables hold
pub byte_at : (i : ℕ) → i < 256 → get_or byte_table i 0 ≡ crc_bits 8 i 0
unfolding byte_table
byte_at i h = made_at itself 8 256 0 i h ∙ ap (λ (j : ℕ). crc_bits 8 j 0) (zero-add i)

pub leap-at : (k i : ℕ) → k < 9 → i < 32 → get_or leap_table (k * 32 + i) 0 ≡ crc_bits (512 * 2 ^ k) (2 ^ i) 0
unfolding leap_table
leap-at k i h l =
    in_row through 32 9 k i (register_table power_of_two 512 32 0) (length-made power_of_two 512 32 0) h l
    ∙ ap (λ (t : List ℕ). get_or t i 0) (row-leap k 512) ∙ made_at power_of_two (512 * 2 ^ k) 32 0 i l
    ∙ ap (λ (j : ℕ). crc_bits (512 * 2 ^ k) (2 ^ j) 0) (zero-add i)

pub slice_at : (k i : ℕ) → k < 8 → i < 256 → get_or slice_table (k * 256 + i) 0 ≡ crc_bits (8 + 8 * k) i 0
unfolding slice_table
slice_at k i h l =
    in_row zero_byte 256 8 k i (register_table itself 8 256 0) (length-made itself 8 256 0) h l
    ∙ ap (λ (t : List ℕ). get_or t i 0) (row-slice k 8) ∙ made_at itself (8 + 8 * k) 256 0 i l
    ∙ ap (λ (j : ℕ). crc_bits (8 + 8 * k) j 0) (zero-add i)

-- ---- a byte by the table
pub byte-turn : (c b v : ℕ) → b < 256 → v ≡ get_or byte_table (bit_xor c b % 256) 0 → bit_xor v (c / 256) ≡ crc_bits 8 c b
byte-turn c b v h e = ap (λ (k : ℕ). bit_xor k (c / 256)) (e ∙ byte_at (bit_xor c b % 256) (mod-lt (bit_xor c b) (lit< tt))) ∙ sym (byte-in c b h)

-- a turn of the loop over a byte string
pub byte_more : (c d from i : ℕ) (xs : List ℕ) → i < length xs → d ≡ crc_bits 8 c (get_or xs i 0) → crc_bytes c (drop i xs) ≡ crc_bytes from xs
    → crc_bytes d (drop (i + 1) xs) ≡ crc_bytes from xs
byte_more c d from i xs h s e = update-turn c d from i xs h s e

-- ---- a leap: the register's bits, one after the other
pub leap-starts : (m c : ℕ) → bit_xor 0 (crc_bits m (c * 2 ^ 0) 0) ≡ crc_bits m c 0
leap-starts m c = ap (λ (k : ℕ). crc_bits m k 0) (mul-one c)

pub leap-bit : (k i x r v w g : ℕ) → k < 9 → i < 32 → v ≡ get_or leap_table (k * 32 + i) 0 → w ≡ v * (x % 2)
    → bit_xor r (crc_bits (512 * 2 ^ k) (x * 2 ^ i) 0) ≡ g
    → bit_xor (bit_xor r w) (crc_bits (512 * 2 ^ k) (x / 2 * 2 ^ (i + 1)) 0) ≡ g
leap-bit k i x r v w g h l ev ew e =
    let m = 512 * 2 ^ k in
    let q : w ≡ crc_bits m (2 ^ i) 0 * (x % 2) = ew ∙ ap (λ (t : ℕ). t * (x % 2)) (ev ∙ leap-at k i h l) in
    rw add-one
    (xor_assoc r w (crc_bits m (x / 2 * 2 ^ suc i) 0)
    ∙ ap (λ (t : ℕ). bit_xor r (bit_xor t (crc_bits m (x / 2 * 2 ^ suc i) 0))) q
    ∙ ap (bit_xor r) (sym (peel m i x)) ∙ e)

pub half-less : (i x : ℕ) → i < 32 → x < 2 ^ (32 - i) → x / 2 < 2 ^ (32 - (i + 1))
half-less i x h l =
    let e : 32 - i ≡ suc (32 - (i + 1)) = omega arith in
    let d : x < 2 ^ (32 - (i + 1)) * 2 = rw (e, pow-suc) at l in
    omega (arith, d)

pub leap-ends : (m i x r g : ℕ) → 32 ≤ i → x < 2 ^ (32 - i) → bit_xor r (crc_bits m (x * 2 ^ i) 0) ≡ g → r ≡ g
leap-ends m i x r g h l e =
    let z : 32 - i ≡ 0 = omega arith in
    let y : x < 1 = rw z at l in
    let n : x ≡ 0 = omega arith in
    sym (xor_zero_r r) ∙ ap (bit_xor r) (sym (ap (λ (k : ℕ). crc_bits m k 0) (ap (λ (k : ℕ). k * 2 ^ i) n ∙ zero-mul (2 ^ i)) ∙ bits_none m)) ∙ e

-- ---- leaps by the binary digits of a number
pub leaps-start : (n c : ℕ) → crc_bits (512 * 2 ^ 0 * n) c 0 ≡ crc_bits (512 * n) c 0
leaps-start n c = refl

pub leaps-turn : (k l x y g : ℕ) → y ≡ crc_bits (512 * 2 ^ k * (l % 2)) x 0 → crc_bits (512 * 2 ^ k * l) x 0 ≡ g
    → crc_bits (512 * 2 ^ (k + 1) * (l / 2)) y 0 ≡ g
leaps-turn k l x y g ey e =
    let p = 512 * 2 ^ k in
    let d : p * l ≡ p * (l % 2) + 512 * 2 ^ suc k * (l / 2) =
    ap (λ (j : ℕ). p * j) (sym (div-add-mod' l 2)) ∙ mul-add p (l / 2 * 2) (l % 2) ∙ add_comm (p * (l / 2 * 2)) (p * (l % 2))
    ∙ ap (λ (j : ℕ). p * (l % 2) + j) (ap (λ (j : ℕ). p * j) (mul_comm (l / 2) 2) ∙ sym (mul_assoc p 2 (l / 2)) ∙ ap (λ (j : ℕ). j * (l / 2)) (mul_assoc 512 (2 ^ k) 2 ∙ ap (λ (j : ℕ). 512 * j) (sym (pow-suc 2 k)))) in
    rw add-one
    (ap (λ (j : ℕ). crc_bits (512 * 2 ^ suc k * (l / 2)) j 0) ey
    ∙ sym (bits-add (p * (l % 2)) (512 * 2 ^ suc k * (l / 2)) x) ∙ ap (λ (j : ℕ). crc_bits j x 0) (sym d) ∙ e)

pub leaps-end : (k l x g : ℕ) → l ≤ 0 → crc_bits (512 * 2 ^ k * l) x 0 ≡ g → x ≡ g
leaps-end k l x g h e =
    let z : l ≡ 0 = omega arith in
    sym (no_bits x) ∙ ap (λ (j : ℕ). crc_bits j x 0) (sym (ap (λ (j : ℕ). 512 * 2 ^ k * j) z ∙ mul-zero (512 * 2 ^ k))) ∙ e

-- while a digit is left, it is one of nine
pub leap-few : (k l : ℕ) → 0 < l → l < 2 ^ (9 - k) → k < 9
leap-few k l h b = ⊎_elim (λ (z : 9 - k ≡ 0). absurd (let y : l < 1 = rw z at b in omega arith)) (λ (d : 0 < 9 - k). omega arith) (eq-zero-or-pos (9 - k))

pub leap-fewer : (k l : ℕ) → k < 9 → l < 2 ^ (9 - k) → l / 2 < 2 ^ (9 - (k + 1))
leap-fewer k l h b =
    let e : 9 - k ≡ suc (9 - (k + 1)) = omega arith in
    let d : l < 2 ^ (9 - (k + 1)) * 2 = rw (e, pow-suc) at b in
    omega (arith, d)

-- ---- zeros at the end
pub or-zero : (a b : ℕ) → bit_or a b ≡ 0 → (a ≡ 0) × (b ≡ 0)
or-zero a b e = (omega (arith, or_add_and a b, and_le_l a b, and_le_r a b), omega (arith, or_add_and a b, and_le_l a b, and_le_r a b))

pub zero-tail : (at n : ℕ) (xs : List ℕ) → at + n ≡ length xs → ((i : ℕ) → at ≤ i → i < length xs → get_or xs i 0 ≡ 0) → drop at xs ≡ replicate n 0
zero-tail at n xs e z =
    let l : length (drop at xs) ≡ n = length-drop at xs ∙ omega arith in
    ext_get_or 0 (drop at xs) (replicate n 0) (l ∙ sym (length-replicate n 0))
    (λ i h. get_or-drop at xs i 0 ∙ z (at + i) (omega arith) (omega arith) ∙ sym (get_or-replicate n i 0 0 (omega arith)))

-- the bytes up to `at`, and `n` times 64 zeros
pub in_two : (at n from c r : ℕ) (xs : List ℕ) → drop at xs ≡ replicate (n * 64) 0 → c ≡ crc_bytes from (take at xs) → r ≡ crc_bits (512 * n) c 0 → r ≡ crc_bytes from xs
in_two at n from c r xs z ec er =
    er ∙ ap (λ (k : ℕ). crc_bits k c 0) (let e : 512 * n ≡ 8 * (n * 64) = omega arith in e) ∙ sym (zero-bytes (n * 64) c)
    ∙ ap₂ crc_bytes ec (sym z) ∙ sym (bytes-append from (take at xs) (drop at xs)) ∙ ap (crc_bytes from) (take-append-drop at xs)

-- the same where four bytes before the zeros are read as zero
pub in-two-zeroed : (off at n from c r : ℕ) (xs : List ℕ) → off + 4 ≤ at → drop at xs ≡ replicate (n * 64) 0
    → c ≡ crc_bytes from (zeroed off (take at xs)) → r ≡ crc_bits (512 * n) c 0 → r ≡ crc_bytes from (zeroed off xs)
in-two-zeroed off at n from c r xs h z ec er =
    let bs : List ℕ = 0 ∷ 0 ∷ 0 ∷ 0 ∷ [] in
    in_two at n from c r (patch off bs xs) (drop-patch at off bs xs h ∙ z) (ec ∙ ap (crc_bytes from) (sym (take-patch at off bs xs h))) er

pub zero_more : (at : ℕ) (xs : List ℕ) → 64 ≤ at → ((k : ℕ) → k < 64 → get_or xs (at - 64 + k) 0 ≡ 0)
    → ((i : ℕ) → at ≤ i → i < length xs → get_or xs i 0 ≡ 0) → (i : ℕ) → at - 64 ≤ i → i < length xs → get_or xs i 0 ≡ 0
zero_more at xs h z old i l u =
    ⊎_elim (λ (e : at - i ≡ 0). old i (omega arith) u)
    (λ (p : 0 < at - i).
    let e : at - 64 + (i - (at - 64)) ≡ i = omega arith in
    ap (λ (j : ℕ). get_or xs j 0) (sym e) ∙ z (i - (at - 64)) (omega arith)) (eq-zero-or-pos (at - i))

pub trim-ends : (at n : ℕ) (xs : List ℕ) → at + n * 64 ≡ length xs → n ≤ 511 → ((i : ℕ) → at ≤ i → i < length xs → get_or xs i 0 ≡ 0)
    → (n < 512) × ((n * 64 ≤ length xs) × (drop (length xs - n * 64) xs ≡ replicate (n * 64) 0))
trim-ends at n xs e h z =
    let d : length xs - n * 64 ≡ at = omega arith in
    (omega arith, (omega arith, ap (λ (k : ℕ). drop k xs) d ∙ zero-tail at (n * 64) xs e z))

pub hop-on : (m l c r : ℕ) → l ≡ 1 → r ≡ crc_bits m c 0 → r ≡ crc_bits (m * l) c 0
hop-on m l c r e h = h ∙ ap (λ (k : ℕ). crc_bits k c 0) (sym (ap (λ (k : ℕ). m * k) e ∙ mul-one m))

pub hop-off : (m l c : ℕ) → l ≡ 0 → c ≡ crc_bits (m * l) c 0
hop-off m l c e = sym (no_bits c) ∙ ap (λ (k : ℕ). crc_bits k c 0) (sym (ap (λ (k : ℕ). m * k) e ∙ mul-zero m))
