-- Rising, falling, and first even then odd are orders in which each group is taken once.
-- Assumes nothing.
use mathlib.Core.Path.{◌≡◌, refl, sym, ap, ◌∙◌}
use mathlib.Core.Bool.{Bool, true, false, not, cond}
use mathlib.Core.List.Perm
use mathlib.Core.List.{List, [], ◌∷◌, ◌++◌, Perm, perm_middle, perm_append_singleton}
use Prim.Native.Nat.{ℕ, zero, suc, ◌+◌}
use native.Mathlib.Omega.{arith}
use lib.ListN.{length, take}
use Rattle.seqs.specs.Lists.{up_from}
use Rattle.plan_orders.specs.Orders.{rising_groups, falling_groups, groups_passing, is_even, even_then_odd, Order}

pub rising-once : (n : ℕ) → Order n (rising_groups n)
rising-once n = Perm.refl (rising_groups n)

-- ---- falling

-- one group more, behind the others
up_more : (a n : ℕ) → up_from a n ++ ((a + n) ∷ []) ≡ up_from a (suc n)
unfolding up_from
up_more a zero = let e : a + zero ≡ a = omega arith in rw e refl
up_more a (suc n) =
    let e : a + suc n ≡ a + 1 + n = omega arith in
    ap (λ (x : ℕ). a ∷ (up_from (a + 1) n ++ (x ∷ []))) e ∙ ap (λ (ks : List ℕ). a ∷ ks) (up_more (a + 1) n)

rising-more : (n : ℕ) → rising_groups n ++ (n ∷ []) ≡ rising_groups (suc n)
rising-more n = let e : n ≡ 0 + n = omega arith in ap (λ (x : ℕ). rising_groups n ++ (x ∷ [])) e ∙ up_more 0 n

no-groups : Order 0 []
unfolding up_from
no-groups = Perm.refl []

pub falling-once : (n : ℕ) → Order n (falling_groups n)
unfolding falling_groups
falling-once zero = no-groups
falling-once (suc n) = rw (← rising-more n) (Perm.trans (Perm.cons n (falling-once n)) (Perm.symm (perm_append_singleton n (rising_groups n))))

-- all of them
pub falling-length : (n : ℕ) → length (falling_groups n) ≡ n
unfolding falling_groups
falling-length zero = refl
falling-length (suc n) = ap suc (falling-length n)

take_all : (ks : List ℕ) → take (length ks) ks ≡ ks
take_all [] = refl
take_all (k ∷ ks) = ap (λ (x : List ℕ). k ∷ x) (take_all ks)

pub falling-whole : (n : ℕ) → take n (falling_groups n) ≡ falling_groups n
falling-whole n = ap (λ (m : ℕ). take m (falling_groups n)) (sym (falling-length n)) ∙ take_all (falling_groups n)

-- ---- even and odd

-- those that pass a test, and then those that don't
parted-at : (t : Bool) (k : ℕ) (xs ys ks : List ℕ) → Perm (xs ++ ys) ks → Perm (cond t (k ∷ xs) xs ++ cond (not t) (k ∷ ys) ys) (k ∷ ks)
parted-at true k xs ys ks p = Perm.cons k p
parted-at false k xs ys ks p = Perm.trans (perm_middle {a = k} xs ys) (Perm.cons k p)

parted : (p : ℕ → Bool) (ks : List ℕ) → Perm (groups_passing p ks ++ groups_passing (λ k. not (p k)) ks) ks
unfolding groups_passing
parted p [] = Perm.refl []
parted p (k ∷ ks) = parted-at (p k) k (groups_passing p ks) (groups_passing (λ k. not (p k)) ks) ks (parted p ks)

pub even-odd-once : (n : ℕ) → Order n (even_then_odd n)
even-odd-once n = parted is_even (rising_groups n)

-- ---- five groups

pub falling-five : falling_groups 5 ≡ 4 ∷ 3 ∷ 2 ∷ 1 ∷ 0 ∷ []
unfolding falling_groups
falling-five = refl

pub even-odd-five : even_then_odd 5 ≡ 0 ∷ 2 ∷ 4 ∷ 1 ∷ 3 ∷ []
unfolding groups_passing up_from
even-odd-five = refl
