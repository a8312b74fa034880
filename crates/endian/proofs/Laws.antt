-- The laws of `patch`, `be_bytes` and `be_at`.
-- Assumes nothing.
use mathlib.Core.Path.{◌≡◌, refl, ap, ap₂, sym, ◌∙◌}
use mathlib.Core.List.{List, [], ◌∷◌, ◌++◌, reverse}
use Prim.Native.Nat.{ℕ, zero, suc, ◌+◌, ◌-◌, ◌*◌, ◌/◌, ◌%◌, ◌^◌, ◌≤◌, ◌<◌}
use native.Mathlib.Nat.{div-div-eq-div-mul, pow-suc, add-zero, zero-add, mul-one, zero-mul, mul_assoc, mul_comm, add_assoc, add-mul, mul-le-mul_right, lt_of_lt_of_le, pow-le-pow_right, mul-suc}
use native.Mathlib.Numerals.{add-one}
use lib.Dec.{lit<, leb}
use borrow.Author.Tests.{le-leb, lt-leb, leb-true, leb-false}
use mathlib.Core.Bool.{Bool, true, false}
use Rattle.refusals.specs.Numbers.{wrong_length}
use Rattle.endian.specs.Answer.{room, Put, Got}
use borrow.Rule.Slice.PartMut.{put_mid, Post-is}
use native.Mathlib.Omega.{arith}
use lib.ListN.{length, get_or, set, length-set, drop, take, take-append-drop, replicate}
use lib.Seq.{drop-cons, take-suc, append_snoc, set_at, length-take-le, take-set-lt, drop-set-lt}
use Rattle.std.proofs.lemmas.Grind.{get_or_default_zero}
use Rattle.std.proofs.lemmas.List.{length-reverse, get_or-reverse}
use Rattle.endian.specs.Bytes.{be_bytes, patch, be_at, numbers_bytes}

pub length-patch : (off : ℕ) (bs xs : List ℕ) → length (patch off bs xs) ≡ length xs
unfolding patch
length-patch off [] xs = refl
length-patch off (b ∷ bs) xs = length-set (patch (suc off) bs xs) off b ∙ length-patch (suc off) bs xs

pub length-be : (n v : ℕ) → length (be_bytes n v) ≡ n
unfolding be_bytes
length-be zero v = refl
length-be (suc n) v = ap suc (length-be n v)

-- A turn of a loop that writes from the last byte to the first: `i` goes down to `i - 1`.
module _ (off i : ℕ) (pos : 0 < i) where
  -- the byte is put before those that are there
  pub patch-turn : (bs xs ys : List ℕ) (b : ℕ) → ys ≡ patch (off + i) bs xs → set ys (off + (i - 1)) b ≡ patch (off + (i - 1)) (b ∷ bs) xs
  unfolding patch
  patch-turn bs xs ys b e =
      let s : off + i ≡ suc (off + (i - 1)) = omega arith in
      ap (λ (zs : List ℕ). set zs (off + (i - 1)) b) (e ∙ ap (λ (k : ℕ). patch k bs xs) s)

  module _ (n v x : ℕ) (le : i ≤ n) (now : x ≡ v / 256 ^ (n - i)) where
    more : n - (i - 1) ≡ suc (n - i)
    more = omega arith

    pub be-turn : x % 256 ∷ be_bytes (n - i) v ≡ be_bytes (n - (i - 1)) v
    unfolding be_bytes
    be-turn = rw (now, more)

    pub shift-turn : x / 256 ≡ v / 256 ^ (n - (i - 1))
    shift-turn = rw (now, more, pow-suc) (div-div-eq-div-mul v (256 ^ (n - i)) 256)

  -- the part of a list that is copied
  pub drop-turn : (xs : List ℕ) → i ≤ length xs → get_or xs (i - 1) 0 ∷ drop i xs ≡ drop (i - 1) xs
  drop-turn xs l =
      let e : i ≡ suc (i - 1) = omega arith in
      ap (λ (k : ℕ). get_or xs (i - 1) 0 ∷ drop k xs) e ∙ sym (drop-cons xs (i - 1) 0 (omega arith))

  pub same_turn : (n b : ℕ) → i ≤ n → b ∷ replicate (n - i) b ≡ replicate (n - (i - 1)) b
  same_turn n b l =
      let e : suc (n - i) ≡ n - (i - 1) = omega arith in
      ap (λ (k : ℕ). replicate k b) e

-- what a loop over a list from its end takes after `n` others
pub taken-last : (xs : List ℕ) (m n v : ℕ) → length xs ≡ m → (n < length (reverse xs)) × (v ≡ get_or (reverse xs) n v) → (n < m) × (v ≡ get_or xs (m - n - 1) 0)
taken-last xs m n v e h =
    let l : n < length xs = rw length-reverse at h.0 in
    let k : length xs - 1 - n ≡ m - n - 1 = omega arith in
    (omega arith, h.1 ∙ get_or-reverse xs n v l ∙ get_or_default_zero xs (length xs - 1 - n) v (omega arith) ∙ ap (λ (i : ℕ). get_or xs i 0) k)

-- one more byte, read after the others
pub at_more : (n off : ℕ) (xs : List ℕ) → be_at (suc n) off xs ≡ be_at n off xs * 256 + get_or xs (off + n) 0
unfolding be_at
at_more zero off xs = simp (add-zero, mul-one, zero-mul, zero-add)
at_more (suc n) off xs =
    let e : suc off + n ≡ off + suc n = omega arith in
    ap (λ (k : ℕ). get_or xs off 0 * 256 ^ suc n + k) (at_more n (suc off) xs)
    ∙ rw (e, pow-suc, ← mul_assoc, ← add_assoc, ← add-mul)

-- what bytes can say
pub at_bound : (n off : ℕ) (xs : List ℕ) → ((i : ℕ) → get_or xs i 0 < 256) → be_at n off xs < 256 ^ n
unfolding be_at
at_bound zero off xs h = omega arith
at_bound (suc n) off xs h =
    let b = h off in
    let r = at_bound n (suc off) xs h in
    rw pow-suc (omega (arith, mul-le-mul_right (256 ^ n) (let s : get_or xs off 0 + 1 ≤ 256 = omega arith in s), add-mul (get_or xs off 0) 1 (256 ^ n), mul_comm (256 ^ n) 256))

-- A turn of the loop that reads: `i` goes up to `i + 1`.
module _ (n off i x b : ℕ) (xs : List ℕ) (now : x ≡ be_at i off xs) (byte : b ≡ get_or xs (off + i) 0) where
  pub read-turn : x * 256 + b ≡ be_at (i + 1) off xs
  read-turn = rw (now, byte, add-one) (sym (at_more i off xs))

  pub read_fits : i < n → n ≤ 8 → ((i : ℕ) → get_or xs i 0 < 256) → x * 256 + b < 2 ^ 64
  read_fits h k bytes =
      rw read-turn (lt_of_lt_of_le (at_bound (i + 1) off xs bytes) (pow-le-pow_right (lit< tt) (let s : i + 1 ≤ 8 = omega arith in s)))

-- what stands before, the bytes, and what stands after them
pub patch-split : (off : ℕ) (bs xs : List ℕ) → off + length bs ≤ length xs → patch off bs xs ≡ take off xs ++ (bs ++ drop (off + length bs) xs)
unfolding patch
patch-split off [] xs h = rw add-zero (sym (take-append-drop off xs))
patch-split off (b ∷ bs) xs h =
    let e : suc off + length bs ≡ off + suc (length bs) = omega arith in
    ap (λ (l : List ℕ). set l off b)
    (patch-split (suc off) bs xs (omega arith)
    ∙ ap₂ (λ (l : List ℕ) (k : ℕ). l ++ (bs ++ drop k xs)) (take-suc xs off 0 (omega arith)) e
    ∙ append_snoc (take off xs) (get_or xs off 0) (bs ++ drop (off + suc (length bs)) xs))
    ∙ set_at (take off xs) (get_or xs off 0) (bs ++ drop (off + suc (length bs)) xs) b off (length-take-le off xs (omega arith))

-- bytes that end by `n` are written into the first `n`
pub take-patch : (n off : ℕ) (bs xs : List ℕ) → off + length bs ≤ n → take n (patch off bs xs) ≡ patch off bs (take n xs)
unfolding patch
take-patch n off [] xs h = refl
take-patch n off (b ∷ bs) xs h =
    take-set-lt n (patch (suc off) bs xs) off b (omega arith) ∙ ap (λ (l : List ℕ). set l off b) (take-patch n (suc off) bs xs (omega arith))

pub drop-patch : (n off : ℕ) (bs xs : List ℕ) → off + length bs ≤ n → drop n (patch off bs xs) ≡ drop n xs
unfolding patch
drop-patch n off [] xs h = refl
drop-patch n off (b ∷ bs) xs h = drop-set-lt n (patch (suc off) bs xs) off b (omega arith) ∙ drop-patch n (suc off) bs xs (omega arith)

-- for a run of writes: what fitted fits still, and the writes so far
pub kept : {m n l : ℕ} → m ≡ n → l ≤ n → l ≤ m
kept e h = omega arith

pub after : (o : ℕ) (bs : List ℕ) {xs ys zs : List ℕ} → zs ≡ patch o bs ys → ys ≡ xs → zs ≡ patch o bs xs
after o bs e d = e ∙ ap (patch o bs) d

-- `&mut xs[at..at + n]`, as the borrow checker gives it back: the part is a patch
pub part-back : (at n : ℕ) (xs ys : List ℕ) → at + n ≤ length xs → length ys ≡ n → put_mid at (at + n - at) xs ys ≡ patch at ys xs
part-back at n xs ys h e =
    ap (λ (l : List ℕ). take at xs ++ (ys ++ l)) (Post-is at (at + n) xs (omega arith))
    ∙ sym (patch-split at ys xs (rw e h) ∙ ap (λ (k : ℕ). take at xs ++ (ys ++ drop (at + k) xs)) e)

-- two runs of bytes, one after the other
pub patch-append : (o : ℕ) (ps bs xs : List ℕ) → patch o (ps ++ bs) xs ≡ patch o ps (patch (o + length ps) bs xs)
unfolding patch
patch-append o [] bs xs = ap (λ (k : ℕ). patch k bs xs) (sym (add-zero o))
patch-append o (a ∷ ps) bs xs =
    let e : suc o + length ps ≡ o + suc (length ps) = omega arith in
    ap (λ (l : List ℕ). set l o a) (patch-append (suc o) ps bs xs ∙ ap (λ (k : ℕ). patch (suc o) ps (patch k bs xs)) e)

-- a turn of a loop that writes numbers of `n` bytes from the last to the first
pub run-turn : (n off i : ℕ) (vs xs ys zs : List ℕ) → 0 < i → i ≤ length vs → ys ≡ patch (off + n * i) (numbers_bytes n (drop i vs)) xs
    → zs ≡ patch (off + n * (i - 1)) (be_bytes n (get_or vs (i - 1) 0)) ys → zs ≡ patch (off + n * (i - 1)) (numbers_bytes n (drop (i - 1) vs)) xs
unfolding numbers_bytes
run-turn n off i vs xs ys zs pos le e d =
    let v = get_or vs (i - 1) 0 in
    let j : i ≡ suc (i - 1) = omega arith in
    let m : off + n * i ≡ off + n * (i - 1) + length (be_bytes n v) =
    ap (λ (k : ℕ). off + n * k) j ∙ ap (λ (k : ℕ). off + k) (mul-suc n (i - 1)) ∙ sym (add_assoc off (n * (i - 1)) n) ∙ ap (λ (k : ℕ). off + n * (i - 1) + k) (sym (length-be n v)) in
    d ∙ ap (patch (off + n * (i - 1)) (be_bytes n v)) (e ∙ ap (λ (k : ℕ). patch k (numbers_bytes n (drop i vs)) xs) m)
    ∙ sym (patch-append (off + n * (i - 1)) (be_bytes n v) (numbers_bytes n (drop i vs)) xs)
    ∙ ap (λ (l : List ℕ). patch (off + n * (i - 1)) (numbers_bytes n l) xs) (drop-turn off i pos vs le)

-- ---- what a function that may refuse leaves, in its own proof
pub refused-by : {m : ℕ} {xs ys : List ℕ} → room m xs ≡ false → Put m ys xs wrong_length xs
refused-by e = record { number = rw e refl; bytes = rw e refl }

pub done-by : {m : ℕ} {xs ys zs : List ℕ} → room m xs ≡ true → zs ≡ ys → Put m ys xs 0 zs
done-by e d = record { number = rw e refl; bytes = rw e d }

pub unread-by : {m v : ℕ} {xs : List ℕ} → room m xs ≡ false → Got m v xs wrong_length 0
unread-by e = record { number = rw e refl; read = rw e refl }

pub read_by : {m v w : ℕ} {xs : List ℕ} → room m xs ≡ true → w ≡ v → Got m v xs 0 w
read_by e d = record { number = rw e refl; read = rw e d }

-- ---- and in its callers': there was room, so the bytes stand
pub put_in : {r m : ℕ} {xs ys zs : List ℕ} → Put m ys xs r zs → m ≤ length xs → zs ≡ ys
put_in {r} {m} {xs} w l = w.bytes ∙ rw (le-leb m (length xs) l) refl

pub got_in : {r v w m : ℕ} {xs : List ℕ} → Got m v xs r w → m ≤ length xs → w ≡ v
got_in {r} {v} {w} {m} {xs} g l = g.read ∙ rw (le-leb m (length xs) l) refl

-- ---- the test
pub inside-not : (len off n : ℕ) → len < n → false ≡ leb (off + n) len
inside-not len off n h = sym (lt-leb (off + n) len (omega arith))

by-test : (b d : Bool) → (b ≡ true → true ≡ d) → (b ≡ false → false ≡ d) → b ≡ d
by-test true d f g = f refl
by-test false d f g = g refl

pub inside_is : (len off n : ℕ) → n ≤ len → leb off (len - n) ≡ leb (off + n) len
inside_is len off n h =
    by-test (leb off (len - n)) (leb (off + n) len)
    (λ t. let g = leb-true off (len - n) t in sym (le-leb (off + n) len (omega arith)))
    (λ t. let g = leb-false off (len - n) t in sym (lt-leb (off + n) len (omega arith)))
