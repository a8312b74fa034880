-- A field that was written is read back, whatever was written after it elsewhere: one law for every structure.
-- Assumes nothing.
use mathlib.Core.Path.{◌≡◌, refl, ap, ap₂, sym, ◌∙◌, subst}
use mathlib.Core.List.{List, [], ◌∷◌, ◌++◌}
use mathlib.Core.Bool.{Bool, true, false, ◌&&◌, ◌||◌}
use Prim.Native.Nat.{ℕ, zero, suc, ◌+◌, ◌-◌, ◌*◌, ◌/◌, ◌%◌, ◌^◌, ◌≤◌, ◌<◌}
use native.Mathlib.Nat.{add-zero, zero-add, le_trans, mod-one, pow-succ', one-le-pow, mod-eq_of_lt}
use native.Mathlib.Numerals.{one-add}
use lib.Arith.{mod-mul}
use native.Mathlib.Omega.{arith}
use lib.Dec.{T, leb, leb→le, lit<}
use lib.ListN.{length, get_or, set, drop, take}
use lib.Seq.{drop_at, take_at, length-take-le, drop-set-lt, drop-set-add, take-set-le, get_or-take, get_or-drop}
use Rattle.endian.specs.Bytes.{be_bytes, patch, be_at}
use Rattle.endian.specs.Fields.{Field, Span, write_fields, part, nth, spans, clear, tidy}
use Rattle.endian.proofs.Laws.{patch-split, length-patch}

-- ---- a store, and a run of stores, elsewhere
set_before : (off n i a : ℕ) (xs : List ℕ) → i < off → part off n (set xs i a) ≡ part off n xs
set_before off n i a xs h = ap (take n) (drop-set-lt off xs i a h)

set_after : (off n i a : ℕ) (xs : List ℕ) → off + n ≤ i → part off n (set xs i a) ≡ part off n xs
set_after off n i a xs h =
    let e : i ≡ off + (i - off) = omega arith in
    ap (λ (k : ℕ). part off n (set xs k a)) e ∙ ap (take n) (drop-set-add off xs (i - off) a) ∙ take-set-le n (drop off xs) (i - off) a (omega arith)

pub patch-before : (off n o : ℕ) (bs xs : List ℕ) → o + length bs ≤ off → part off n (patch o bs xs) ≡ part off n xs
unfolding patch
patch-before off n o [] xs h = refl
patch-before off n o (b ∷ bs) xs h = set_before off n o b (patch (suc o) bs xs) (omega arith) ∙ patch-before off n (suc o) bs xs (omega arith)

pub patch-after : (off n o : ℕ) (bs xs : List ℕ) → off + n ≤ o → part off n (patch o bs xs) ≡ part off n xs
unfolding patch
patch-after off n o [] xs h = refl
patch-after off n o (b ∷ bs) xs h = set_after off n o b (patch (suc o) bs xs) h ∙ patch-after off n (suc o) bs xs (omega arith)

-- what was written
pub patch-same : (off : ℕ) (bs xs : List ℕ) → off + length bs ≤ length xs → part off (length bs) (patch off bs xs) ≡ bs
patch-same off bs xs h =
    ap (part off (length bs)) (patch-split off bs xs h)
    ∙ ap (take (length bs)) (drop_at (take off xs) (bs ++ drop (off + length bs) xs) off (length-take-le off xs (omega arith)))
    ∙ take_at bs (drop (off + length bs) xs) (length bs) refl

-- ---- tests
pub and_left : (a b : Bool) → T (a && b) → T a
and_left true b t = tt
and_left false b t = t

pub and_right : (a b : Bool) → T (a && b) → T b
and_right true b t = t
and_right false b t = absurd t

-- one test or the other
pub either : (P : Type 0) (a b : Bool) → T (a || b) → (T a → P) → (T b → P) → P
either P true b t f g = f tt
either P false b t f g = g t

-- ---- the law
pub write-length : (fs : List Field) (xs : List ℕ) → length (write_fields fs xs) ≡ length xs
write-length [] xs = refl
write-length (f ∷ fs) xs = write-length fs (patch f.at f.bytes xs) ∙ length-patch f.at f.bytes xs

pub write-clear : (fs : List Field) (off n : ℕ) (xs : List ℕ) → T (clear off n (spans fs)) → part off n (write_fields fs xs) ≡ part off n xs
write-clear [] off n xs t = refl
write-clear (f ∷ fs) off n xs t =
    let o = f.at in
    let m = length f.bytes in
    write-clear fs off n (patch o f.bytes xs) (and_right (leb (off + n) o || leb (o + m) off) (clear off n (spans fs)) t)
    ∙ either (part off n (patch o f.bytes xs) ≡ part off n xs) (leb (off + n) o) (leb (o + m) off) (and_left (leb (off + n) o || leb (o + m) off) (clear off n (spans fs)) t)
    (λ a. patch-after off n o f.bytes xs (leb→le (off + n) o a))
    (λ b. patch-before off n o f.bytes xs (leb→le (o + m) off b))

read-tidy : (fs : List Field) (m : ℕ) (xs : List ℕ) → m ≤ length xs → T (tidy m (spans fs)) → (k : ℕ) → k < length fs
    → part (nth fs k).at (length (nth fs k).bytes) (write_fields fs xs) ≡ (nth fs k).bytes
read-tidy [] m xs l t k h = absurd (omega arith)
read-tidy (f ∷ fs) m xs l t zero h =
    let o = f.at in
    let n = length f.bytes in
    let u = and_left (leb (o + n) m && clear o n (spans fs)) (tidy m (spans fs)) t in
    let fits : o + n ≤ m = leb→le (o + n) m (and_left (leb (o + n) m) (clear o n (spans fs)) u) in
    write-clear fs o n (patch o f.bytes xs) (and_right (leb (o + n) m) (clear o n (spans fs)) u)
    ∙ patch-same o f.bytes xs (le_trans fits l)
read-tidy (f ∷ fs) m xs l t (suc k) h =
    let o = f.at in
    let n = length f.bytes in
    let w : length (patch o f.bytes xs) ≡ length xs = length-patch o f.bytes xs in
    read-tidy fs m (patch o f.bytes xs) (omega arith)
    (and_right (leb (o + n) m && clear o n (spans fs)) (tidy m (spans fs)) t) k (omega arith)

-- the fields `fs` stand as `ss` says, and a test that antt computes says that `ss` is tidy
pub read-field : (ss : List Span) (m : ℕ) → T (tidy m ss) → (fs : List Field) → spans fs ≡ ss → (xs : List ℕ) → m ≤ length xs
    → (k : ℕ) → k < length fs → part (nth fs k).at (length (nth fs k).bytes) (write_fields fs xs) ≡ (nth fs k).bytes
read-field ss m t fs e xs l k h = read-tidy fs m xs l (subst (λ (s : List Span). T (tidy m s)) (sym e) t) k h

-- ---- numbers
at-ext : (n o p : ℕ) (xs ys : List ℕ) → ((k : ℕ) → k < n → get_or xs (o + k) 0 ≡ get_or ys (p + k) 0) → be_at n o xs ≡ be_at n p ys
unfolding be_at
at-ext zero o p xs ys h = refl
at-ext (suc n) o p xs ys h =
    ap₂ (λ (a b : ℕ). a * 256 ^ n + b) (simp add-zero at (h 0 (omega arith)))
    (at-ext n (suc o) (suc p) xs ys (λ k l.
    let e : suc o + k ≡ o + suc k = omega arith in
    let d : suc p + k ≡ p + suc k = omega arith in
    rw (e, d) (h (suc k) (omega arith))))

-- a number is read from its part alone
pub at_part : (n off : ℕ) (xs : List ℕ) → be_at n off xs ≡ be_at n 0 (part off n xs)
at_part n off xs =
    at-ext n off 0 xs (part off n xs) (λ k l. sym (rw zero-add (get_or-take n (drop off xs) k 0 l ∙ get_or-drop off xs k 0)))

pub at-be : (n v : ℕ) → be_at n 0 (be_bytes n v) ≡ v % 256 ^ n
unfolding be_at be_bytes
at-be zero v = sym (mod-one v)
at-be (suc n) v =
    ap (λ (k : ℕ). v / 256 ^ n % 256 * 256 ^ n + k)
    (at-ext n 1 0 (v / 256 ^ n % 256 ∷ be_bytes n v) (be_bytes n v) (λ k l. rw (one-add, zero-add)) ∙ at-be n v)
    ∙ sym (rw pow-succ' (mod-mul v (lit< tt) (one-le-pow n 256 (lit< tt))))

-- a number that was written is read back
pub at-written : (n v off : ℕ) (xs : List ℕ) → v < 256 ^ n → part off n xs ≡ be_bytes n v → be_at n off xs ≡ v
at-written n v off xs h e = at_part n off xs ∙ ap (be_at n 0) e ∙ at-be n v ∙ mod-eq_of_lt h

-- bytes that are written clear of the fields leave each as it was
pub patch-clear : (fs : List Field) (off n : ℕ) (bs ys : List ℕ) → T (clear off n (spans fs)) → length bs ≡ n → (k : ℕ) → k < length fs
    → part (nth fs k).at (length (nth fs k).bytes) (patch off bs ys) ≡ part (nth fs k).at (length (nth fs k).bytes) ys
patch-clear [] off n bs ys t e k h = absurd (omega arith)
patch-clear (f ∷ fs) off n bs ys t e zero h =
    let o = f.at in
    let m = length f.bytes in
    either (part o m (patch off bs ys) ≡ part o m ys) (leb (off + n) o) (leb (o + m) off) (and_left (leb (off + n) o || leb (o + m) off) (clear off n (spans fs)) t)
    (λ a. patch-before o m off bs ys (rw e (leb→le (off + n) o a)))
    (λ b. patch-after o m off bs ys (leb→le (o + m) off b))
patch-clear (f ∷ fs) off n bs ys t e (suc k) h =
    patch-clear fs off n bs ys (and_right (leb (off + n) f.at || leb (f.at + length f.bytes) off) (clear off n (spans fs)) t) e k (omega arith)
