-- The laws of `le_bytes` and `le_at`: numbers with the lowest byte first, which is the reverse of the other order.
-- Assumes nothing.
use mathlib.Core.Path.{◌≡◌, refl, ap, ap₂, sym, ◌∙◌}
use mathlib.Core.List.{List, [], ◌∷◌, reverse, reverse-append}
use Prim.Native.Nat.{ℕ, zero, suc, ◌+◌, ◌-◌, ◌*◌, ◌/◌, ◌%◌, ◌^◌, ◌≤◌, ◌<◌}
use native.Mathlib.Nat.{pow-suc, lt_of_lt_of_le, pow-le-pow_right, add-zero, zero-add, mod-one, one-le-pow, add_comm, mul_comm, mod-eq_of_lt}
use native.Mathlib.Numerals.{one-add, towards_suc}
use lib.Arith.{mod-mul}
use native.Mathlib.Omega.{arith}
use lib.Dec.{lit<}
use lib.ListN.{length, get_or, set, drop}
use lib.Seq.{get_or-take, get_or-drop}
use Rattle.endian.specs.Bytes.{be_bytes, patch}
use Rattle.endian.specs.Fields.{part}
use Rattle.endian.proofs.Order.{store-before}
use Rattle.endian.proofs.Widths.{be-last}
use Rattle.endian_little.specs.Bytes.{le_bytes, le_at}

pub length-le : (n v : ℕ) → length (le_bytes n v) ≡ n
unfolding le_bytes
length-le zero v = refl
length-le (suc n) v = ap suc (length-le n (v / 256))

-- a turn of the loop that writes: what is left to write, over what stands there now
pub le-turn : (off i n x : ℕ) (ys w : List ℕ) → i < n → patch (off + i) (le_bytes (n - i) x) ys ≡ w
    → patch (off + (i + 1)) (le_bytes (n - (i + 1)) (x / 256)) (set ys (off + i) (x % 256)) ≡ w
unfolding patch le_bytes
le-turn off i n x ys w h e =
    let m : n - i ≡ suc (n - (i + 1)) = omega arith in
    let s : off + (i + 1) ≡ suc (off + i) = omega arith in
    let d : patch (off + i) (le_bytes (suc (n - (i + 1))) x) ys ≡ w = rw m at e in
    rw s (sym (store-before (off + i) (x % 256) (suc (off + i)) (le_bytes (n - (i + 1)) (x / 256)) ys (omega arith)) ∙ d)

pub le-done : (off i n x : ℕ) (ys w : List ℕ) → n ≤ i → patch (off + i) (le_bytes (n - i) x) ys ≡ w → ys ≡ w
unfolding patch le_bytes
le-done off i n x ys w h e =
    let m : n - i ≡ 0 = omega arith in
    rw m at e

-- what bytes can say
pub le-bound : (n off : ℕ) (xs : List ℕ) → ((i : ℕ) → get_or xs i 0 < 256) → le_at n off xs < 256 ^ n
unfolding le_at
le-bound zero off xs h = omega arith
le-bound (suc n) off xs h =
    let b = h off in
    let r = le-bound n (suc off) xs h in
    rw pow-suc (omega arith)

-- A turn of the loop that reads, from the last byte to the first: `i` goes down to `i - 1`.
module _ (n off i x b : ℕ) (xs : List ℕ) (pos : 0 < i) (le : i ≤ n) (now : x ≡ le_at (n - i) (off + i) xs) (byte : b ≡ get_or xs (off + (i - 1)) 0) where
  pub le-read-turn : x * 256 + b ≡ le_at (n - (i - 1)) (off + (i - 1)) xs
  unfolding le_at
  le-read-turn =
      let m : n - (i - 1) ≡ suc (n - i) = omega arith in
      let s : off + i ≡ suc (off + (i - 1)) = omega arith in
      let e : x ≡ le_at (n - i) (suc (off + (i - 1))) xs = now ∙ ap (λ (k : ℕ). le_at (n - i) k xs) s in
      rw m (omega (arith, e, byte))

  pub le-read-fits : n ≤ 8 → ((i : ℕ) → get_or xs i 0 < 256) → x * 256 + b < 2 ^ 64
  le-read-fits k bytes =
      rw le-read-turn (lt_of_lt_of_le (le-bound (n - (i - 1)) (off + (i - 1)) xs bytes) (pow-le-pow_right (lit< tt) (let s : n - (i - 1) ≤ 8 = omega arith in s)))

-- four bytes that were read one by one
pub le_four : (off a b c d : ℕ) (xs : List ℕ) → a ≡ get_or xs off 0 → b ≡ get_or xs (off + 1) 0 → c ≡ get_or xs (off + 2) 0 → d ≡ get_or xs (off + 3) 0
    → a + 256 * (b + 256 * (c + 256 * d)) ≡ le_at 4 off xs
unfolding le_at
le_four off a b c d xs ea eb ec ed = rw (ea, eb, ec, ed) (simp towards_suc)

-- ---- a number that was written is read back
le-ext : (n o p : ℕ) (xs ys : List ℕ) → ((k : ℕ) → k < n → get_or xs (o + k) 0 ≡ get_or ys (p + k) 0) → le_at n o xs ≡ le_at n p ys
unfolding le_at
le-ext zero o p xs ys h = refl
le-ext (suc n) o p xs ys h =
    ap₂ (λ (a b : ℕ). a + 256 * b) (simp add-zero at (h 0 (omega arith)))
    (le-ext n (suc o) (suc p) xs ys (λ k l.
    let e : suc o + k ≡ o + suc k = omega arith in
    let d : suc p + k ≡ p + suc k = omega arith in
    rw (e, d) (h (suc k) (omega arith))))

-- a number is read from its part alone
pub le-part : (n off : ℕ) (xs : List ℕ) → le_at n off xs ≡ le_at n 0 (part off n xs)
le-part n off xs = le-ext n off 0 xs (part off n xs) (λ k l. sym (rw zero-add (get_or-take n (drop off xs) k 0 l ∙ get_or-drop off xs k 0)))

pub le-le : (n v : ℕ) → le_at n 0 (le_bytes n v) ≡ v % 256 ^ n
unfolding le_at le_bytes
le-le zero v = sym (mod-one v)
le-le (suc n) v =
    ap (λ (k : ℕ). v % 256 + 256 * k) (le-ext n 1 0 (v % 256 ∷ le_bytes n (v / 256)) (le_bytes n (v / 256)) (λ k l. rw (one-add, zero-add)) ∙ le-le n (v / 256))
    ∙ sym (rw pow-suc (mod-mul v (one-le-pow n 256 (lit< tt)) (lit< tt) ∙ add_comm (v / 256 % 256 ^ n * 256) (v % 256) ∙ ap (λ (k : ℕ). v % 256 + k) (mul_comm (v / 256 % 256 ^ n) 256)))

pub le-written : (n v off : ℕ) (xs : List ℕ) → v < 256 ^ n → part off n xs ≡ le_bytes n v → le_at n off xs ≡ v
le-written n v off xs h e = le-part n off xs ∙ ap (le_at n 0) e ∙ le-le n v ∙ mod-eq_of_lt h

-- ---- the other order

pub le-reversed : (n v : ℕ) → le_bytes n v ≡ reverse (be_bytes n v)
unfolding le_bytes be_bytes
le-reversed zero v = refl
le-reversed (suc n) v =
    ap (λ (l : List ℕ). v % 256 ∷ l) (le-reversed n (v / 256))
    ∙ sym (ap reverse (be-last n v) ∙ reverse-append (be_bytes n (v / 256)) (v % 256 ∷ []))
