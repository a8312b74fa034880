-- The digits of a number: one more, how many, that each is a digit, and that they say the number.
-- Assumes nothing.
use mathlib.Core.Path.{◌≡◌, refl, sym, ap, ◌∙◌}
use mathlib.Core.Bool.{Bool, true, false, cond}
use mathlib.Core.List.{List, [], ◌∷◌, ◌++◌}
use Prim.Native.Nat.{ℕ, zero, suc, ◌+◌, ◌-◌, ◌*◌, ◌/◌, ◌%◌, ◌^◌, ◌≤◌, ◌<◌}
use native.Mathlib.Omega.{arith}
use native.Mathlib.Nat.{pow-suc, one-le-pow}
use lib.Dec.{ltb, lit<}
use lib.ListN.{length, length-append}
use borrow.Author.Tests.{lt-ltb, le-ltb, ltb-true, ltb-false}
use Rattle.table_lines.specs.Decimal.{digit, digits, decimal, value_after}

same-pick : (t : Bool) (a b c : List ℕ) → (t ≡ false → b ≡ c) → cond t a b ≡ cond t a c
same-pick true a b c f = refl
same-pick false a b c f = f refl

digits-small : (turns n : ℕ) → n < 10 → digits turns n ≡ digit n ∷ []
unfolding digits
digits-small zero n h = refl
digits-small (suc turns) n h = rw (lt-ltb n 10 h) refl

-- as many turns as the number is are enough
enough : (k m n : ℕ) → n ≤ k → n ≤ m → digits k n ≡ digits m n
unfolding digits
enough zero m n h l = sym (digits-small m n (omega arith))
enough (suc k) zero n h l = digits-small (suc k) n (omega arith)
enough (suc k) (suc m) n h l =
    same-pick (ltb n 10) (digit n ∷ []) (digits k (n / 10) ++ (digit (n % 10) ∷ [])) (digits m (n / 10) ++ (digit (n % 10) ∷ []))
    (λ e. let g = ltb-false n 10 e in ap (λ (ds : List ℕ). ds ++ (digit (n % 10) ∷ [])) (enough k m (n / 10) (omega arith) (omega arith)))

pub decimal-small : (n : ℕ) → n < 10 → decimal n ≡ digit n ∷ []
unfolding decimal
decimal-small n h = digits-small n n h

digits_more : (k n : ℕ) → 10 ≤ n → n ≤ suc k → digits (suc k) n ≡ digits (n / 10) (n / 10) ++ (digit (n % 10) ∷ [])
unfolding digits
digits_more k n h l =
    rw (le-ltb n 10 h) (ap (λ (ds : List ℕ). ds ++ (digit (n % 10) ∷ [])) (enough k (n / 10) (n / 10) (omega arith) (omega arith)))

pub decimal-more : (n : ℕ) → 10 ≤ n → decimal n ≡ decimal (n / 10) ++ (digit (n % 10) ∷ [])
unfolding decimal
decimal-more n h =
    let e : n ≡ suc (n - 1) = omega arith in
    ap (λ (t : ℕ). digits t n) e ∙ digits_more (n - 1) n h (omega arith)

-- for a number of `k` + 1 digits `k` turns are enough
pub digits-few : (k n : ℕ) → n < 10 ^ suc k → decimal n ≡ digits k n
unfolding digits
digits-few zero n h = decimal-small n (let g : n < 10 = h in g)
digits-few (suc k) n h = go (ltb n 10) refl (digits-few k (n / 10))
  where
    go : (t : Bool) → ltb n 10 ≡ t → (n / 10 < 10 ^ suc k → decimal (n / 10) ≡ digits k (n / 10)) → decimal n ≡ cond (ltb n 10) (digit n ∷ []) (digits k (n / 10) ++ (digit (n % 10) ∷ []))
    go true e f = rw e (decimal-small n (ltb-true n 10 e))
    go false e f =
        let p = pow-suc 10 (suc k) in
        rw e (decimal-more n (ltb-false n 10 e) ∙ ap (λ (ds : List ℕ). ds ++ (digit (n % 10) ∷ [])) (f (omega (arith, p))))

pub length-small : (n : ℕ) → n < 10 → length (decimal n) ≡ 1
length-small n h = rw (decimal-small n h) refl

pub length_more : (n : ℕ) → 10 ≤ n → length (decimal n) ≡ length (decimal (n / 10)) + 1
length_more n h = rw (decimal-more n h) (length-append (decimal (n / 10)) (digit (n % 10) ∷ []))

-- a number of `k` + 1 digits
pub length_most : (k n : ℕ) → n < 10 ^ suc k → length (decimal n) ≤ suc k
length_most zero n h = let e = length-small n (let g : n < 10 = h in g) in omega arith
length_most (suc k) n h = go (ltb n 10) refl (length_most k (n / 10))
  where
    go : (t : Bool) → ltb n 10 ≡ t → (n / 10 < 10 ^ suc k → length (decimal (n / 10)) ≤ suc k) → length (decimal n) ≤ suc (suc k)
    go true e f = let d = length-small n (ltb-true n 10 e) in omega arith
    go false e f =
        let d = length_more n (ltb-false n 10 e) in
        let p = pow-suc 10 (suc k) in
        let l = f (omega (arith, p)) in
        omega arith

length_least : (k n : ℕ) → 10 ^ k ≤ n → suc k ≤ length (decimal n)
length_least zero n h = go (ltb n 10) refl
  where
    go : (t : Bool) → ltb n 10 ≡ t → 1 ≤ length (decimal n)
    go true e = let d = length-small n (ltb-true n 10 e) in omega arith
    go false e = let d = length_more n (ltb-false n 10 e) in omega arith
length_least (suc k) n h =
    let p = pow-suc 10 k in
    let q = one-le-pow k 10 (lit< tt) in
    let d = length_more n (omega (arith, p, q)) in
    let l = length_least k (n / 10) (omega (arith, p)) in
    omega arith

pub length_is : (k n : ℕ) → 10 ^ k ≤ n → n < 10 * 10 ^ k → k + 1 ≡ length (decimal n)
length_is k n h l =
    let p = pow-suc 10 k in
    omega (arith, length_least k n h, length_most k n (omega (arith, p)))

pub length-64 : (n : ℕ) → n < 2 ^ 64 → length (decimal n) ≤ 20
length-64 n h = length_most 19 n (omega arith)

-- ---- each byte is a digit
abbrev pub AllDigits : List ℕ → Type 0
AllDigits [] = Unit {0}
AllDigits (b ∷ bs) = ((48 ≤ b) × (b ≤ 57)) × AllDigits bs

all_snoc : (bs : List ℕ) (b : ℕ) → AllDigits bs → 48 ≤ b → b ≤ 57 → AllDigits (bs ++ (b ∷ []))
all_snoc [] b a h l = ((h, l), tt)
all_snoc (c ∷ bs) b a h l = (a.0, all_snoc bs b a.1 h l)

-- ---- the value
value-snoc : (v : ℕ) (bs : List ℕ) (b : ℕ) → value_after v (bs ++ (b ∷ [])) ≡ value_after v bs * 10 + (b - 48)
unfolding value_after
value-snoc v [] b = refl
value-snoc v (c ∷ bs) b = value-snoc (v * 10 + (c - 48)) bs b

pub record Says (n : ℕ) (bs : List ℕ) : Type 0 where
  pub all_digits : AllDigits bs
  pub value : value_after 0 bs ≡ n

says-small : (n : ℕ) → n < 10 → Says n (decimal n)
unfolding value_after
says-small n h =
    rw (decimal-small n h) (record { all_digits = ((omega arith, omega arith), tt); value = let e : 0 * 10 + (48 + n - 48) ≡ n = omega arith in e })

says-more : (n : ℕ) → 10 ≤ n → Says (n / 10) (decimal (n / 10)) → Says n (decimal n)
says-more n h s =
    rw (decimal-more n h)
    (record {
      all_digits = all_snoc (decimal (n / 10)) (digit (n % 10)) s.all_digits (omega arith) (omega arith);
      value = value-snoc 0 (decimal (n / 10)) (digit (n % 10)) ∙ (let v = s.value in rw v (let e : n / 10 * 10 + (48 + n % 10 - 48) ≡ n = omega arith in e));
    })

says-turns : (turns n : ℕ) → n ≤ turns → Says n (decimal n)
says-turns zero n h = says-small n (omega arith)
says-turns (suc turns) n h = go (ltb n 10) refl (says-turns turns (n / 10))
  where
    go : (t : Bool) → ltb n 10 ≡ t → (n / 10 ≤ turns → Says (n / 10) (decimal (n / 10))) → Says n (decimal n)
    go true e f = says-small n (ltb-true n 10 e)
    go false e f = let g = ltb-false n 10 e in says-more n g (f (omega arith))

-- the bytes of `decimal` are digits, and say the number
pub says : (n : ℕ) → Says n (decimal n)
says n = says-turns n n (omega arith)
