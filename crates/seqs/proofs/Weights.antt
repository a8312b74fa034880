-- Weights of runs that add up where a run is split: how often a block is used, and how many blocks there are.
-- Assumes nothing.
use mathlib.Core.Path.{◌≡◌, refl, ap}
use mathlib.Core.Bool.{Bool, true, false, cond}
use mathlib.Core.List.{List, [], ◌∷◌, ◌++◌}
use mathlib.Core.Logic.{⊎_elim}
use Prim.Native.Nat.{ℕ, ◌+◌, ◌≤◌, ◌<◌}
use native.Mathlib.Nat.{add-zero}
use native.Mathlib.Omega.{arith}
use native.Mathlib.Numerals.{add-one}
use borrow.Author.Tests.{lt-ltb, le-ltb}
use lib.Dec.{ltb}
use lib.ListN.{length, take, drop, get_or}
use lib.Seq.{split_at}
use Rattle.seqs.specs.Lists.{spliced, total}
use Rattle.seqs.specs.Runs.{valid, inside_run, weigh, run_length, has}
use Rattle.seqs.proofs.Parts.{Follows, valid-uncons}
use Rattle.seqs.proofs.Laws.{lt-or-le}

none-at : (t : Bool) → cond {A = ℕ} t 0 0 ≡ 0
none-at true = refl
none-at false = refl

module _ (a c b : ℕ) where
  pub inside-in : a ≤ b → b < c → inside_run a c b ≡ 1
  unfolding inside_run
  inside-in h k = rw (le-ltb b a h, lt-ltb b c k)

  pub inside-below : b < a → inside_run a c b ≡ 0
  unfolding inside_run
  inside-below h = rw (lt-ltb b a h)

  pub inside-above : c ≤ b → inside_run a c b ≡ 0
  unfolding inside_run
  inside-above h = rw (le-ltb b c h) (none-at (ltb b a))

  pub inside-none : c ≤ a → inside_run a c b ≡ 0
  inside-none h = ⊎_elim (λ l. inside-below l) (λ g. inside-above (omega arith)) (lt-or-le b a)

pub inside-split : (a m c b : ℕ) → a ≤ m → m ≤ c → inside_run a c b ≡ inside_run a m b + inside_run m c b
inside-split a m c b h k =
    ⊎_elim
    (λ l. let x = inside-below a c b l in let y = inside-below a m b l in let z = inside-below m c b (omega arith) in omega arith)
    (λ g. ⊎_elim
    (λ l. let x = inside-in a c b g (omega arith) in let y = inside-in a m b g l in let z = inside-below m c b l in omega arith)
    (λ i. ⊎_elim
    (λ l. let x = inside-in a c b g l in let y = inside-above a m b i in let z = inside-in m c b i l in omega arith)
    (λ j. let x = inside-above a c b j in let y = inside-above a m b i in let z = inside-above m c b j in omega arith)
    (lt-or-le b c))
    (lt-or-le b m))
    (lt-or-le b a)

-- a weight of runs that adds up where a run is split
pub record Additive (f : ℕ → ℕ → ℕ) : Type 0 where
  pub split : (a m c : ℕ) → a ≤ m → m ≤ c → f a c ≡ f a m + f m c
  pub none : (a c : ℕ) → c ≤ a → f a c ≡ 0

pub additive-has : (b : ℕ) → Additive (has b)
additive-has b = record { split = λ a m c h k. inside-split a m c b h k; none = λ a c h. inside-none a c b h }

pub additive-blocks : Additive run_length
unfolding run_length
additive-blocks = record { split = λ a m c h k. omega arith; none = λ a c h. omega arith }

module _ {A : Type 0} (start count : A → ℕ) (f : ℕ → ℕ → ℕ) where
  pub weigh-append : (xs ys : List A) → weigh start count f (xs ++ ys) ≡ weigh start count f xs + weigh start count f ys
  unfolding weigh
  weigh-append [] ys = omega arith
  weigh-append (x ∷ xs) ys = let h = weigh-append xs ys in omega arith

  pub weigh-one : (r : A) → weigh start count f (r ∷ []) ≡ f (start r) (start r + count r)
  unfolding weigh
  weigh-one r = rw add-zero

  pub weigh-cons : (r : A) (rs : List A) → weigh start count f (r ∷ rs) ≡ f (start r) (start r + count r) + weigh start count f rs
  unfolding weigh
  weigh-cons r rs = refl

  pub total-weighs : (xs : List A) → total (λ r. f (start r) (start r + count r)) xs ≡ weigh start count f xs
  unfolding weigh total
  total-weighs [] = refl
  total-weighs (x ∷ xs) = ap (λ (n : ℕ). f (start x) (start x + count x) + n) (total-weighs xs)

  -- one element taken out, and others put in its place
  pub weigh-spliced : (z : A) (xs : List A) (i : ℕ) (ys : List A) → i < length xs
      → weigh start count f xs + weigh start count f ys ≡ weigh start count f (spliced xs i (i + 1) ys) + f (start (get_or xs i z)) (start (get_or xs i z) + count (get_or xs i z))
  weigh-spliced z xs i ys h =
      let e : weigh start count f xs ≡ weigh start count f (take i xs ++ get_or xs i z ∷ drop (i + 1) xs) = rw add-one (ap (weigh start count f) (split_at xs i z h)) in
      let m = weigh-append (take i xs) (get_or xs i z ∷ drop (i + 1) xs) in
      let g = weigh-cons (get_or xs i z) (drop (i + 1) xs) in
      let k = weigh-append (take i xs) (ys ++ drop (i + 1) xs) in
      let l = weigh-append ys (drop (i + 1) xs) in
      omega arith

-- ---- a valid list has no block twice
pub record AtMostOnce (lo b n : ℕ) : Type 0 where
  pub once : n ≤ 1
  pub below : b < lo → n ≡ 0

once-at : (lo s c b n : ℕ) → Follows lo s c → AtMostOnce (s + c) b n → AtMostOnce lo b (has b s (s + c) + n)
once-at lo s c b n f r =
    ⊎_elim
    (λ l. let z = inside-below s (s + c) b l in let k = r.below (omega arith) in record { once = omega arith; below = λ h. omega arith })
    (λ g. ⊎_elim
    (λ l. let z = inside-in s (s + c) b g l in let k = r.below l in record { once = omega arith; below = λ h. absurd (omega arith) })
    (λ i. let z = inside-above s (s + c) b i in let k = r.once in record { once = omega arith; below = λ h. absurd (omega arith) })
    (lt-or-le b (s + c)))
    (lt-or-le b s)

pub valid-once : {A : Type 0} (start count : A → ℕ) (lo : ℕ) (xs : List A) (b : ℕ) → valid start count lo xs ≡ true → AtMostOnce lo b (weigh start count (has b) xs)
unfolding weigh
valid-once start count lo [] b v = record { once = omega arith; below = λ h. refl }
valid-once start count lo (x ∷ xs) b v =
    let u = valid-uncons start count lo x xs v in
    once-at lo (start x) (count x) b (weigh start count (has b) xs) u.0 (valid-once start count (start x + count x) xs b u.1)
