-- Signed seconds, shifted to unsigned at both ends of the range.
-- Assumes nothing.
use mathlib.Core.Path.{◌≡◌, refl, ap, ap₂, sym, ◌∙◌, subst}
use mathlib.Core.Bool.{Bool, true, false, cond}
use Prim.Native.Nat.{ℕ, suc, ◌+◌, ◌-◌, ◌*◌, ◌/◌, ◌%◌, ◌^◌, ◌≤◌, ◌<◌}
use native.Mathlib.Omega.{arith}
use lib.Dec.{T, ltb}
use lib.IntN.{ℤ, pos, negsuc, ◌+ℤ◌, ◌-ℤ◌}
use lib.Signed.{lt_z}
use mir.Syntax.{w64}
use mir.Val.{SFits, to_z, of_z}
use mir.ValLaws.{to_z_pos, to_z-of_z}
use borrow.Author.Tests.{lt-ltb, le-ltb, le-leb, lt-leb, ltb-true, ltb-false, leb-true, leb-false}
use Rattle.refusals.specs.Numbers.{time_out_of_range}
use Rattle.structs.specs.Written.{require}
use Rattle.inode_time.specs.Time.{second, epoch, not_early, shifted, in32, time_inside, time_raw, value_if, StoredAs, storable, ShiftedTime, signed32, decoded}
use Rattle.params.specs.declared.Timestamp.{Timestamp}

never : {A : Type 0} → false ≡ true → A
never e = absurd (subst T (sym e) tt)

-- ---- the two tests of the seconds
pub early : (x s : ℤ) → x ≡ s → lt_z x (negsuc 2147483647) ≡ true → storable s ≡ false
unfolding storable
early x (pos n) e t = never (rw e at t)
early x (negsuc n) e t = lt-leb (suc n) epoch (let h = ltb-true 2147483647 n (rw e at t) in omega arith)

pub late : (x s : ℤ) → x ≡ s → lt_z (pos 16299260425) x ≡ true → storable s ≡ false
unfolding storable
late x (pos n) e t = lt-leb n 16299260425 (ltb-true 16299260425 n (rw e at t))
late x (negsuc n) e t = never (rw e at t)

pub between : (x s : ℤ) → x ≡ s → lt_z x (negsuc 2147483647) ≡ false → lt_z (pos 16299260425) x ≡ false → storable s ≡ true
unfolding storable
between x (pos n) e t u = le-leb n 16299260425 (ltb-false 16299260425 n (rw e at u))
between x (negsuc n) e t u = le-leb (suc n) epoch (let h = ltb-false 2147483647 n (rw e at t) in omega arith)

-- without bigtime the last second is 2,147,483,647
pub late-small : (x s : ℤ) → x ≡ s → lt_z (pos 2147483647) x ≡ true → ltb (shifted s) (2 ^ 32) ≡ false
unfolding shifted
late-small x (pos n) e t = le-ltb (n + epoch) (2 ^ 32) (let h = ltb-true 2147483647 n (rw e at t) in omega arith)
late-small x (negsuc n) e t = never (rw e at t)

pub not-late-small : (x s : ℤ) → x ≡ s → lt_z (pos 2147483647) x ≡ false → shifted s ≤ 4294967295
unfolding shifted
not-late-small x (pos n) e t = let h = ltb-false 2147483647 n (rw e at t) in omega arith
not-late-small x (negsuc n) e t = omega arith

-- ---- the shift
pub shifted-most : (s : ℤ) → storable s ≡ true → shifted s ≤ 18446744073
unfolding storable shifted
shifted-most (pos n) t = let h = leb-true n 16299260425 t in omega arith
shifted-most (negsuc n) t = omega arith

pub sum_is : (x s : ℤ) → x ≡ s → storable s ≡ true → x +ℤ pos 2147483648 ≡ pos (shifted s)
unfolding storable shifted
sum_is x (pos n) e t = rw e refl
sum_is x (negsuc n) e t = rw (e, le-ltb epoch (suc n) (leb-true (suc n) epoch t)) refl

pub sum_fits : (x s : ℤ) → x ≡ s → storable s ≡ true → SFits w64 (x +ℤ pos 2147483648)
sum_fits x s e t = rw (sum_is x s e t) (record { sfits = let h = shifted-most s t in omega arith })

pub sum-read : (x s : ℤ) → x ≡ s → storable s ≡ true → to_z w64 (of_z w64 (x +ℤ pos 2147483648)) ≡ pos (shifted s)
sum-read x s e t = rw (sum_is x s e t) (to_z_pos w64 (shifted s) (let h = shifted-most s t in let g : shifted s < 2 ^ 63 = omega arith in g))

pub inside-no : (s : ℤ) → storable s ≡ false → ShiftedTime s false 0
inside-no s e = record { test = sym e; value-is = rw e refl }

pub inside-yes : (s : ℤ) (v : ℕ) → storable s ≡ true → v ≡ shifted s → ShiftedTime s true v
inside-yes s v e d = record { test = sym e; value-is = rw e d }

-- ---- which times are inside
pub no-nanoseconds : (big : Bool) (s : ℤ) (n : ℕ) → second ≤ n → time_inside big s n ≡ false
unfolding time_inside
no-nanoseconds true s n h = rw (le-ltb n second h) refl
no-nanoseconds false s n h = rw (le-ltb n second h) refl

pub not-storable : (big : Bool) (s : ℤ) (n : ℕ) → n < second → storable s ≡ false → time_inside big s n ≡ false
unfolding time_inside storable not_early shifted
not-storable true (pos k) n h t =
    let g = leb-false k 16299260425 t in
    rw (lt-ltb n second h, le-ltb ((k + epoch) * second + n) (2 ^ 64) (omega arith)) refl
not-storable false (pos k) n h t =
    let g = leb-false k 16299260425 t in
    rw (lt-ltb n second h, le-ltb (k + epoch) (2 ^ 32) (omega arith)) refl
not-storable true (negsuc k) n h t = rw (lt-ltb n second h, t) refl
not-storable false (negsuc k) n h t = rw (lt-ltb n second h, t) refl

not-early : (s : ℤ) → storable s ≡ true → not_early s ≡ true
unfolding storable not_early
not-early (pos k) t = refl
not-early (negsuc k) t = t

pub inside-big : (s : ℤ) (n : ℕ) → n < second → storable s ≡ true → time_inside true s n ≡ ltb (shifted s * second + n) (2 ^ 64)
unfolding time_inside
inside-big s n h t = rw (lt-ltb n second h, not-early s t) refl

pub inside-small : (s : ℤ) (n : ℕ) → n < second → storable s ≡ true → time_inside false s n ≡ ltb (shifted s) (2 ^ 32)
unfolding time_inside
inside-small s n h t = rw (lt-ltb n second h, not-early s t) refl

pub in32-is : (s : ℤ) → storable s ≡ true → shifted s < 2 ^ 32 → (shifted s + 2147483648) % 2 ^ 32 ≡ in32 s
unfolding storable shifted in32
in32-is (pos k) t h = omega arith
in32-is (negsuc k) t h = let g = leb-true (suc k) epoch t in omega arith

-- ---- the answers
pub time-no : (big : Bool) (s : ℤ) (n r v : ℕ) → time_inside big s n ≡ false → r ≡ time_out_of_range → v ≡ 0 → StoredAs big s n r v
time-no big s n r v e a b = record { number_is = rw e a; value-is = rw e b }

pub time-big : (s : ℤ) (n w r v : ℕ) → n < second → storable s ≡ true → w ≡ shifted s
    → (r ≡ require time_out_of_range (ltb (w * 1000000000 + n) (2 ^ 64)) 0) × (v ≡ value_if (ltb (w * 1000000000 + n) (2 ^ 64)) (w * 1000000000 + n)) → StoredAs true s n r v
unfolding time_raw
time-big s n w r v h t e p =
    let i = inside-big s n h t in
    let q = rw e at p in
    record { number_is = rw i q.0; value-is = rw i q.1 }

pub time-small : (s : ℤ) (n w r v : ℕ) → n < second → storable s ≡ true → w ≡ shifted s → shifted s ≤ 4294967295
    → (r ≡ 0) × (v ≡ (w + 2147483648) % 2 ^ 32 * 2 ^ 32 + n) → StoredAs false s n r v
unfolding time_raw
time-small s n w r v h t e l p =
    let i = inside-small s n h t ∙ lt-ltb (shifted s) (2 ^ 32) (omega arith) in
    let q = rw e at p in
    record { number_is = rw i q.0; value-is = rw i (q.1 ∙ ap (λ (k : ℕ). k * 2 ^ 32 + n) (in32-is s t (omega arith))) }

-- ---- back: a difference of two numbers, read as signed
cond-fits : (b : Bool) (x y : ℤ) → SFits w64 x → SFits w64 y → SFits w64 (cond b x y)
cond-fits true x y f g = f
cond-fits false x y f g = g

pub small-read : (q : ℕ) → q < 2 ^ 62 → to_z w64 q ≡ pos q
small-read q h = to_z_pos w64 q (let g : q < 2 ^ 63 = omega arith in g)

pub difference-fits : (q m : ℕ) → q < 2 ^ 62 → m < 2 ^ 62 → SFits w64 (to_z w64 q -ℤ pos (suc m))
difference-fits q m h k =
    rw (small-read q h)
    (cond-fits (ltb q (suc m)) (negsuc (suc m - suc q)) (pos (q - suc m)) (record { sfits = let g : suc m - suc q < 2 ^ 63 = omega arith in g }) (record { sfits = let g : q - suc m < 2 ^ 63 = omega arith in g }))

pub difference-read : (q m : ℕ) → q < 2 ^ 62 → m < 2 ^ 62 → to_z w64 (of_z w64 (to_z w64 q -ℤ pos (suc m))) ≡ pos q -ℤ pos (suc m)
difference-read q m h k = to_z-of_z w64 (to_z w64 q -ℤ pos (suc m)) (difference-fits q m h k) ∙ ap (λ (x : ℤ). x -ℤ pos (suc m)) (small-read q h)

-- ---- the three answers of `decode_time`
pub decoded-big : (raw : ℕ) (s : ℤ) (n : ℕ) → s ≡ pos (raw / 1000000000) -ℤ pos 2147483648 → n ≡ raw % 1000000000 → ◌≡◌ {A = Timestamp} (record { secs = s; nsecs = n }) (decoded true raw)
unfolding decoded
decoded-big raw s n e d = ap₂ (λ (x : ℤ) (k : ℕ). record { secs = x; nsecs = k }) e d

pub decoded-plus : (raw : ℕ) (s : ℤ) → raw / 4294967296 < 2147483648 → s ≡ pos (raw / 4294967296) → ◌≡◌ {A = Timestamp} (record { secs = s; nsecs = raw % 4294967296 }) (decoded false raw)
unfolding decoded signed32
decoded-plus raw s h e = rw (lt-ltb (raw / 4294967296) (2 ^ 31) h) (ap (λ (x : ℤ). record { secs = x; nsecs = raw % 4294967296 }) e)

pub decoded-minus : (raw : ℕ) (s : ℤ) → 2147483648 ≤ raw / 4294967296 → s ≡ pos (raw / 4294967296) -ℤ pos 4294967296
    → ◌≡◌ {A = Timestamp} (record { secs = s; nsecs = raw % 4294967296 }) (decoded false raw)
unfolding decoded signed32
decoded-minus raw s h e = rw (le-ltb (raw / 4294967296) (2 ^ 31) h) (ap (λ (x : ℤ). record { secs = x; nsecs = raw % 4294967296 }) e)
