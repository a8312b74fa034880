-- The tree by size has the records of the tree by block, each before the next.
-- Assumes nothing.
use mathlib.Core.Path.{◌≡◌, refl, sym, ap, ◌∙◌}
use mathlib.Core.Bool.{Bool, true, false, cond}
use mathlib.Core.List.{List, [], ◌∷◌}
use Prim.Native.Nat.{ℕ, ◌+◌, ◌<◌, ◌≤◌}
use native.Mathlib.Omega.{arith}
use borrow.Author.Tests.{eqb-true, eqb-false, ltb-true, ltb-false, lt-ltb, le-leb, eq-eqb, ne_eqb}
use lib.Dec.{eqb, ltb}
use Rattle.seqs.specs.Lists.{total}
use Rattle.btree.specs.declared.records.AllocRec.{AllocRec}
use Rattle.plan_free.specs.Free.{smaller}
use Rattle.head_bytes.specs.Sorting.{inserted_by_size, by_size}
use Rattle.head_bytes.specs.Sorted.{in_order, Sorted}

-- ---- the same records: any weight of them sums to the same

module _ (f : AllocRec → ℕ) where
  put-case : (r x : AllocRec) (xs : List AllocRec) (t : Bool) → smaller r x ≡ t → total f (inserted_by_size r xs) ≡ f r + total f xs
      → total f (cond t (r ∷ x ∷ xs) (x ∷ inserted_by_size r xs)) ≡ f r + (f x + total f xs)
  unfolding total
  put-case r x xs true e h = refl
  put-case r x xs false e h = omega arith

  put-total : (r : AllocRec) (xs : List AllocRec) → total f (inserted_by_size r xs) ≡ f r + total f xs
  unfolding total inserted_by_size
  put-total r [] = refl
  put-total r (x ∷ xs) = put-case r x xs (smaller r x) refl (put-total r xs)

  pub by-size-total : (xs : List AllocRec) → total f (by_size xs) ≡ total f xs
  unfolding total by_size
  by-size-total [] = refl
  by-size-total (r ∷ rs) = put-total r (by_size rs) ∙ ap (λ (n : ℕ). f r + n) (by-size-total rs)

-- ---- in order

before-case : (p q s t : ℕ) (e : Bool) → eqb p q ≡ e → cond e (ltb s t) (ltb p q) ≡ true → (a b : AllocRec)
    → a.count ≡ p → b.count ≡ q → a.start ≡ s → b.start ≡ t → in_order a b ≡ true
unfolding in_order
before-case p q s t true ee h a b ca cb sa sb = rw (ca, cb, sa, sb, ee) (le-leb s t (let o = ltb-true s t h in omega arith))
before-case p q s t false ee h a b ca cb sa sb = rw (ca, cb, sa, sb, ee) h

-- a record that is smaller stands before
before : (a b : AllocRec) → smaller a b ≡ true → in_order a b ≡ true
before a b h = before-case a.count b.count a.start b.start (eqb a.count b.count) refl h a b refl refl refl refl

behind-case : (p q s t : ℕ) (e : Bool) → eqb p q ≡ e → cond e (ltb s t) (ltb p q) ≡ false → (a b : AllocRec)
    → a.count ≡ p → b.count ≡ q → a.start ≡ s → b.start ≡ t → in_order b a ≡ true
unfolding in_order
behind-case p q s t true ee h a b ca cb sa sb =
    let o = eqb-true p q ee in
    let l = ltb-false s t h in
    rw (ca, cb, sa, sb, eq-eqb q p (sym o)) (le-leb t s l)
behind-case p q s t false ee h a b ca cb sa sb =
    let o = eqb-false p q ee in
    let l = ltb-false p q h in
    rw (ca, cb, sa, sb, ne_eqb q p (λ z. o (sym z))) (lt-ltb q p (omega arith))

-- one that isn't stands behind
behind : (a b : AllocRec) → smaller a b ≡ false → in_order b a ≡ true
behind a b h = behind-case a.count b.count a.start b.start (eqb a.count b.count) refl h a b refl refl refl refl

-- ---- a record put in its place

first-case : (x r y : AllocRec) (ys : List AllocRec) (t : Bool) → in_order x r ≡ true → in_order x y ≡ true → Sorted (cond t (r ∷ y ∷ ys) (y ∷ inserted_by_size r ys))
    → Sorted (x ∷ cond t (r ∷ y ∷ ys) (y ∷ inserted_by_size r ys))
first-case x r y ys true a b s = (a, s)
first-case x r y ys false a b s = (b, s)

-- x stays before what r was put into
still-first : (x r : AllocRec) (xs : List AllocRec) → in_order x r ≡ true → Sorted (x ∷ xs) → Sorted (inserted_by_size r xs) → Sorted (x ∷ inserted_by_size r xs)
unfolding inserted_by_size
still-first x r [] a s t = (a, tt)
still-first x r (y ∷ ys) a s t = first-case x r y ys (smaller r y) a s.0 t

rest_sorted : (x : AllocRec) (xs : List AllocRec) → Sorted (x ∷ xs) → Sorted xs
rest_sorted x [] s = tt
rest_sorted x (y ∷ ys) s = s.1

place-case : (r x : AllocRec) (xs : List AllocRec) (t : Bool) → smaller r x ≡ t → Sorted (x ∷ xs) → Sorted (inserted_by_size r xs)
    → Sorted (cond t (r ∷ x ∷ xs) (x ∷ inserted_by_size r xs))
place-case r x xs true e s p = (before r x e, s)
place-case r x xs false e s p = still-first x r xs (behind r x e) s p

put-sorted : (r : AllocRec) (xs : List AllocRec) → Sorted xs → Sorted (inserted_by_size r xs)
unfolding inserted_by_size
put-sorted r [] s = tt
put-sorted r (x ∷ xs) s = place-case r x xs (smaller r x) refl s (put-sorted r xs (rest_sorted x xs s))

-- THE TREE BY SIZE IS SORTED
pub by-size-sorted : (xs : List AllocRec) → Sorted (by_size xs)
unfolding by_size
by-size-sorted [] = tt
by-size-sorted (r ∷ rs) = put-sorted r (by_size rs) (by-size-sorted rs)
