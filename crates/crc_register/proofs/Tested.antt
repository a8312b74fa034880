-- The tables, tested in few steps: zero bits are a linear map, so a row follows from one of its entries. The entries are read as they stand,
-- since to compute `tables_made` from its first row alone costs a power of their number.
-- Assumes nothing.
use mathlib.Core.Path.{◌≡◌, refl, ap, ap₂, sym, ◌∙◌}
use mathlib.Core.List.{List, [], ◌∷◌, ◌++◌, map}
use mathlib.Core.Bool.{Bool, true, false, ◌&&◌}
use Prim.Native.Nat.{ℕ, zero, suc, ◌+◌, ◌*◌, ◌^◌, ◌<◌, ◌≤◌}
use native.Mathlib.Nat.{add-zero, zero-add, suc-add, add_comm, pow-suc, mul-one, one-mul, le_of_eq}
use native.Mathlib.Omega.{arith}
use lib.Dec.{lit<, lit≤, T, eqb, eqb→eq}
use lib.ListN.{get_or, length, take, drop, length-drop, take-append-drop}
use lib.Seq.{take-add, take_all, get_or-take, length-take-le}
use lib.Bits.{bit_xor, xor_shifted}
use Rattle.endian.proofs.Fields.{and_left, and_right}
use Rattle.crc_register.proofs.Register.{bits-sum, bit-even}
use Rattle.crc_register.proofs.Linear.{bits-add, bits_none, bits-lt, made_at, length-made, through-made, twice, longer}
use Rattle.crc_register.specs.Register.{crc_bit, crc_bits}
use Rattle.crc_register.specs.Tables.{register_table, itself, power_of_two, through, tables_made, byte_table, leap_table, zero_byte, slice_table}

-- ---- two lists of numbers are one
abbrev pub same : List ℕ → List ℕ → Bool
same [] [] = true
same [] (y ∷ ys) = false
same (x ∷ xs) [] = false
same (x ∷ xs) (y ∷ ys) = eqb x y && same xs ys

same-eq : (xs ys : List ℕ) → T (same xs ys) → xs ≡ ys
same-eq [] [] t = refl
same-eq [] (y ∷ ys) t = absurd t
same-eq (x ∷ xs) [] t = absurd t
same-eq (x ∷ xs) (y ∷ ys) t =
    ap₂ (λ (z : ℕ) (zs : List ℕ). z ∷ zs) (eqb→eq x y (and_left (eqb x y) (same xs ys) t)) (same-eq xs ys (and_right (eqb x y) (same xs ys) t))

-- ---- the entries of single bits: each is the next one after a zero bit, and the last is `e`
abbrev pub chained : ℕ → List ℕ → Bool
chained e [] = false
chained e (x ∷ []) = eqb x e
chained e (x ∷ y ∷ ys) = eqb x (crc_bit y 0) && chained e (y ∷ ys)

bit-last : (m c : ℕ) → crc_bit (crc_bits m c 0) 0 ≡ crc_bits m (crc_bit c 0) 0
unfolding crc_bits
bit-last zero c = refl
bit-last (suc m) c = bit-last m (crc_bit c 0)

bit-less : (m i : ℕ) → crc_bit (crc_bits m (2 ^ suc i) 0) 0 ≡ crc_bits m (2 ^ i) 0
bit-less m i = bit-last m (2 ^ suc i) ∙ ap (λ (k : ℕ). crc_bits m k 0) (ap (λ (k : ℕ). crc_bit k 0) (pow-suc 2 i) ∙ bit-even (2 ^ i))

chained-made : (m k i e : ℕ) (l : List ℕ) → i + length l ≡ suc k → e ≡ crc_bits m (2 ^ k) 0 → T (chained e l) → l ≡ register_table power_of_two m (length l) i
unfolding register_table
chained-made m k i e [] n q t = absurd t
chained-made m k i e (x ∷ []) n q t =
    let d : k ≡ i = omega arith in
    ap (λ (z : ℕ). z ∷ []) (eqb→eq x e t ∙ q ∙ ap (λ (j : ℕ). crc_bits m (2 ^ j) 0) d)
chained-made m k i e (x ∷ y ∷ ys) n q t =
    let r : y ∷ ys ≡ register_table power_of_two m (length (y ∷ ys)) (suc i) = chained-made m k (suc i) e (y ∷ ys) (omega arith) q (and_right (eqb x (crc_bit y 0)) (chained e (y ∷ ys)) t) in
    let h : y ≡ crc_bits m (2 ^ suc i) 0 = ap (λ (l : List ℕ). get_or l 0 0) r in
    ap₂ (λ (z : ℕ) (zs : List ℕ). z ∷ zs) (eqb→eq x (crc_bit y 0) (and_left (eqb x (crc_bit y 0)) (chained e (y ∷ ys)) t) ∙ ap (λ (j : ℕ). crc_bit j 0) h ∙ bit-less m i) r

-- ---- `n` tables of the register's bits, the last entry of the first being `e`
abbrev pub leaping : ℕ → ℕ → List ℕ → Bool
leaping zero e l = true
leaping (suc n) e l = chained e (take 32 l) && leaping n (through (take 32 l) (get_or l 31 0)) (drop 32 l)

leaping-rows : (n m e : ℕ) (l : List ℕ) → length l ≡ 32 * n → e ≡ crc_bits m (2 ^ 31) 0 → T (leaping n e l) → l ≡ tables_made through n (register_table power_of_two m 32 0)
unfolding tables_made
leaping-rows zero m e [] d q t = refl
leaping-rows zero m e (x ∷ xs) d q t = absurd (omega arith)
leaping-rows (suc n) m e l d q t =
    let f = through (take 32 l) (get_or l 31 0) in
    let w : length (take 32 l) ≡ 32 = length-take-le 32 l (omega arith) in
    let r : take 32 l ≡ register_table power_of_two m 32 0 =
    chained-made m 31 0 e (take 32 l) (zero-add (length (take 32 l)) ∙ w) q (and_left (chained e (take 32 l)) (leaping n f (drop 32 l)) t)
    ∙ ap (λ (k : ℕ). register_table power_of_two m k 0) w in
    let b : get_or l 31 0 ≡ crc_bits m (2 ^ 31) 0 = sym (get_or-take 32 l 31 0 (lit< tt)) ∙ ap (λ (s : List ℕ). get_or s 31 0) r ∙ made_at power_of_two m 32 0 31 (lit< tt) in
    let g : f ≡ crc_bits (m + m) (2 ^ 31) 0 =
    ap₂ through r b ∙ through-made m 32 0 (crc_bits m (2 ^ 31) 0) (bits-lt m (2 ^ 31) (lit< tt))
    ∙ ap (λ (k : ℕ). crc_bits m k 0) (mul-one (crc_bits m (2 ^ 31) 0)) ∙ sym (bits-add m m (2 ^ 31)) in
    sym (take-append-drop 32 l)
    ∙ ap₂ (λ (s u : List ℕ). s ++ u) r
    (leaping-rows n (m + m) f (drop 32 l) (length-drop 32 l ∙ omega arith) g (and_right (chained e (take 32 l)) (leaping n f (drop 32 l)) t)
    ∙ ap (tables_made through n) (sym (twice m 32 0 (lit≤ tt))))

pub leap-right : (l : List ℕ) → length l ≡ 288 → T (leaping 9 (crc_bits 512 (2 ^ 31) 0) l) → l ≡ leap_table
unfolding leap_table
leap-right l d t = leaping-rows 9 512 (crc_bits 512 (2 ^ 31) 0) l d refl t

-- ---- the first `2 ^ k` entries of a table of bytes: each new bit's entry is added to all before it
abbrev pub summed : ℕ → List ℕ → Bool
summed zero l = eqb (get_or l 0 0) 0
summed (suc k) l = same (take (2 ^ k) (drop (2 ^ k) l)) (map (bit_xor (get_or l (2 ^ k) 0)) (take (2 ^ k) l)) && summed k l

made-append : (f : ℕ → ℕ) (m a b i : ℕ) → register_table f m (a + b) i ≡ register_table f m a i ++ register_table f m b (i + a)
unfolding register_table
made-append f m zero b i = ap₂ (λ (p q : ℕ). register_table f m p q) (zero-add b) (sym (add-zero i))
made-append f m (suc a) b i =
    ap (λ (k : ℕ). register_table f m k i) (suc-add a b)
    ∙ ap (λ (r : List ℕ). crc_bits m (f i) 0 ∷ r)
    (made-append f m a b (suc i) ∙ ap (λ (k : ℕ). register_table f m a (suc i) ++ register_table f m b k) (let e : suc i + a ≡ i + suc a = omega arith in e))

moved : (m k n i : ℕ) → i + n ≤ 2 ^ k → map (bit_xor (crc_bits m (2 ^ k) 0)) (register_table itself m n i) ≡ register_table itself m n (2 ^ k + i)
unfolding register_table
moved m k zero i h = refl
moved m k (suc n) i h =
    ap₂ (λ (x : ℕ) (xs : List ℕ). x ∷ xs)
    (sym (bits-sum m (2 ^ k) i)
    ∙ ap (λ (v : ℕ). crc_bits m v 0) (ap (λ (v : ℕ). bit_xor v i) (sym (one-mul (2 ^ k))) ∙ xor_shifted 1 k i (omega arith) ∙ ap (λ (v : ℕ). v + i) (one-mul (2 ^ k))))
    (moved m k n (suc i) (omega arith) ∙ ap (register_table itself m n) (let e : 2 ^ k + suc i ≡ suc (2 ^ k + i) = omega arith in e))

summed-made : (m k : ℕ) (l : List ℕ) → 2 ^ k ≤ length l → ((j : ℕ) → j < k → get_or l (2 ^ j) 0 ≡ crc_bits m (2 ^ j) 0) → T (summed k l)
    → take (2 ^ k) l ≡ register_table itself m (2 ^ k) 0
unfolding register_table
summed-made m zero [] h b t = absurd (omega arith)
summed-made m zero (x ∷ xs) h b t = ap (λ (z : ℕ). z ∷ []) (eqb→eq x 0 t ∙ sym (bits_none m))
summed-made m (suc k) l h b t =
    let p = 2 ^ k in
    let d : 2 ^ suc k ≡ p + p = pow-suc 2 k ∙ omega arith in
    let s = same (take p (drop p l)) (map (bit_xor (get_or l p 0)) (take p l)) in
    let r : take p l ≡ register_table itself m p 0 = summed-made m k l (omega arith) (λ j i. b j (omega arith)) (and_right s (summed k l) t) in
    let u : take p (drop p l) ≡ register_table itself m p (0 + p) =
    same-eq (take p (drop p l)) (map (bit_xor (get_or l p 0)) (take p l)) (and_left s (summed k l) t)
    ∙ ap₂ (λ (e : ℕ) (xs : List ℕ). map (bit_xor e) xs) (b k (omega arith)) r
    ∙ moved m k p 0 (omega arith) ∙ ap (register_table itself m p) (add_comm p 0) in
    ap (λ (n : ℕ). take n l) d ∙ take-add p p l ∙ ap₂ (λ (xs ys : List ℕ). xs ++ ys) r u ∙ sym (made-append itself m p p 0) ∙ ap (λ (n : ℕ). register_table itself m n 0) (sym d)

-- ---- a table of bytes after `m` zero bits, and `n` tables, each after a zero byte more
abbrev pub single : List ℕ → ℕ → ℕ
single l i = get_or l (2 ^ i) 0

abbrev pub summing : ℕ → List ℕ → Bool
summing m l = chained (crc_bits m 128 0) (register_table (single l) 0 8 0) && summed 8 l

single-at : (m : ℕ) (l : List ℕ) → register_table (single l) 0 8 0 ≡ register_table power_of_two m 8 0 → (j : ℕ) → j < 8 → get_or l (2 ^ j) 0 ≡ crc_bits m (2 ^ j) 0
unfolding crc_bits
single-at m l e j h =
    ap (single l) (sym (zero-add j)) ∙ sym (made_at (single l) 0 8 0 j h) ∙ ap (λ (s : List ℕ). get_or s j 0) e ∙ made_at power_of_two m 8 0 j h
    ∙ ap (λ (k : ℕ). crc_bits m (2 ^ k) 0) (zero-add j)

pub summing-made : (m : ℕ) (l : List ℕ) → length l ≡ 256 → T (summing m l) → l ≡ register_table itself m 256 0
summing-made m l d t =
    let c = chained (crc_bits m 128 0) (register_table (single l) 0 8 0) in
    let w = length-made (single l) 0 8 0 in
    let e : register_table (single l) 0 8 0 ≡ register_table power_of_two m 8 0 =
    chained-made m 7 0 (crc_bits m 128 0) (register_table (single l) 0 8 0) (zero-add (length (register_table (single l) 0 8 0)) ∙ w) refl (and_left c (summed 8 l) t)
    ∙ ap (λ (k : ℕ). register_table power_of_two m k 0) w in
    sym (take_all 256 l (le_of_eq d)) ∙ summed-made m 8 l (omega arith) (single-at m l e) (and_right c (summed 8 l) t)

pub byte-right : (l : List ℕ) → length l ≡ 256 → T (summing 8 l) → l ≡ byte_table
unfolding byte_table
byte-right = summing-made 8

abbrev pub slicing : ℕ → ℕ → List ℕ → Bool
slicing zero m l = true
slicing (suc n) m l = summing m (take 256 l) && slicing n (m + 8) (drop 256 l)

slicing-rows : (n m : ℕ) (l : List ℕ) → length l ≡ 256 * n → T (slicing n m l) → l ≡ tables_made zero_byte n (register_table itself m 256 0)
unfolding tables_made
slicing-rows zero m [] d t = refl
slicing-rows zero m (x ∷ xs) d t = absurd (omega arith)
slicing-rows (suc n) m l d t =
    let s = summing m (take 256 l) in
    let u = slicing n (m + 8) (drop 256 l) in
    sym (take-append-drop 256 l)
    ∙ ap₂ (λ (xs ys : List ℕ). xs ++ ys) (summing-made m (take 256 l) (length-take-le 256 l (omega arith)) (and_left s u t))
    (slicing-rows n (m + 8) (drop 256 l) (length-drop 256 l ∙ omega arith) (and_right s u t) ∙ ap (tables_made zero_byte n) (sym (longer m 256 0)))

pub slice-right : (l : List ℕ) → length l ≡ 2048 → T (slicing 8 8 l) → l ≡ slice_table
unfolding slice_table
slice-right l d t = slicing-rows 8 8 l d t
