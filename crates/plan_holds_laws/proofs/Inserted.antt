-- The held list with a run put in by its start, and without one.
-- Assumes nothing.
use mathlib.Core.Path.{◌≡◌, refl, ap}
use mathlib.Core.Bool.{Bool, true, false, cond}
use mathlib.Core.List.{List, [], ◌∷◌, ◌++◌}
use mathlib.Core.Logic.{⊎_elim}
use Prim.Native.Nat.{ℕ, suc, ◌+◌, ◌≤◌, ◌<◌, ◌^◌}
use native.Mathlib.Omega.{arith}
use borrow.Author.Tests.{ltb-true, ltb-false, lt-ltb, le-ltb, eqb-true}
use lib.Dec.{ltb, eqb}
use lib.ListN.{length}
use Rattle.arith.proofs.Both.{left-true, right-true}
use Rattle.seqs.specs.Lists.{total}
use Rattle.seqs.specs.Runs.{valid, weigh, has}
use Rattle.seqs.proofs.Laws.{never, lt-or-le}
use Rattle.seqs.proofs.Parts.{Follows, valid-uncons, valid-cons, valid-lower}
use Rattle.seqs.proofs.Weights.{weigh-cons}
use Rattle.btree.specs.declared.records.AllocRec.{AllocRec}
use Rattle.plan_free.specs.Free.{alloc_start, alloc_count, alloc_end}
use Rattle.plan_extents.specs.Takes.{holding}
use Rattle.plan_holds.specs.Holding.{block_run, is_run, any_run, starts_on, side, put_run, drop_run}
use Rattle.plan_holds_laws.proofs.Separated.{in-first}

-- ---- ks is hs with the run r put in somewhere
pub data Ins (r : AllocRec) : List AllocRec → List AllocRec → Type 0 where
  here : (hs : List AllocRec) → Ins r hs (r ∷ hs)
  there : (x : AllocRec) (hs ks : List AllocRec) → Ins r hs ks → Ins r (x ∷ hs) (x ∷ ks)

pub ins-weighs : (f : ℕ → ℕ → ℕ) (r : AllocRec) (hs ks : List AllocRec) → Ins r hs ks → weigh alloc_start alloc_count f ks ≡ weigh alloc_start alloc_count f hs + f r.start (alloc_end r)
ins-weighs f r hs ks (here us) = let w = weigh-cons alloc_start alloc_count f r us in omega arith
ins-weighs f r hs ks (there x us vs i) =
    let a = weigh-cons alloc_start alloc_count f x us in
    let b = weigh-cons alloc_start alloc_count f x vs in
    let c = ins-weighs f r us vs i in
    omega arith

pub ins-total : (g : AllocRec → ℕ) (r : AllocRec) (hs ks : List AllocRec) → Ins r hs ks → total g ks ≡ total g hs + g r
unfolding total
ins-total g r hs ks (here us) = omega arith
ins-total g r hs ks (there x us vs i) = let c = ins-total g r us vs i in omega arith

pub ins-length : (r : AllocRec) (hs ks : List AllocRec) → Ins r hs ks → length ks ≡ suc (length hs)
ins-length r hs ks (here us) = refl
ins-length r hs ks (there x us vs i) = ap suc (ins-length r us vs i)

pub ins-valid : (r : AllocRec) (lo : ℕ) (hs ks : List AllocRec) → Ins r hs ks → valid alloc_start alloc_count lo ks ≡ true → valid alloc_start alloc_count lo hs ≡ true
ins-valid r lo hs ks (here us) v = let u = valid-uncons alloc_start alloc_count lo r us v in let l = u.0.low in valid-lower alloc_start alloc_count (alloc_end r) lo us (omega arith) u.1
ins-valid r lo hs ks (there x us vs i) v =
    let u = valid-uncons alloc_start alloc_count lo x vs v in
    valid-cons alloc_start alloc_count lo x us u.0 (ins-valid r (alloc_end x) us vs i u.1)

-- ---- the sides of a block that comes before all runs
pub record Above (a : ℕ) (xs : List AllocRec) : Type 0 where
  pub none : side true a xs ≡ []
  pub all : side false a xs ≡ xs

pub sides-above : (lo a : ℕ) (xs : List AllocRec) → valid alloc_start alloc_count lo xs ≡ true → a < lo → Above a xs
unfolding side starts_on
sides-above lo a [] v h = record { none = refl; all = refl }
sides-above lo a (x ∷ xs) v h =
    let u = valid-uncons alloc_start alloc_count lo x xs v in
    let l = u.0.low in
    let r = sides-above (alloc_end x) a xs u.1 (omega arith) in
    record {
      none = rw (le-ltb x.start a (omega arith)) r.none;
      all = rw (lt-ltb a x.start (omega arith), r.all) refl;
    }

-- ---- a run that no held run meets, put in
pub record PutOk (lo : ℕ) (r : AllocRec) (hs ks : List AllocRec) : Type 0 where
  pub sorted : valid alloc_start alloc_count lo ks ≡ true
  pub ins : Ins r hs ks

module _ (r : AllocRec) (some : 0 < r.count) (high : alloc_end r < 2 ^ 32) where
  put-at : (lo : ℕ) (x : AllocRec) (xs : List AllocRec) → Follows lo x.start x.count → valid alloc_start alloc_count (alloc_end x) xs ≡ true → lo ≤ r.start
      → ((b : ℕ) → r.start ≤ b → b < alloc_end r → holding b (x ∷ xs) ≡ 0)
      → (alloc_end x ≤ r.start → PutOk (alloc_end x) r xs (put_run r xs))
      → (p q : Bool) → ltb x.start r.start ≡ p → ltb r.start x.start ≡ q
      → PutOk lo r (x ∷ xs) (cond p (x ∷ side true r.start xs) (side true r.start xs) ++ (r ∷ cond q (x ∷ side false r.start xs) (side false r.start xs)))
  put-at lo x xs f v h z ih true true e k =
      let u : x.start < r.start = ltb-true _ _ e in let w : r.start < x.start = ltb-true _ _ k in absurd (omega arith)
  put-at lo x xs f v h z ih true false e k =
      let u : x.start < r.start = ltb-true _ _ e in
      let m : alloc_end x ≤ r.start =
      ⊎_elim (λ l. let i = in-first r.start x xs (omega arith) l in let o = z r.start (omega arith) (omega arith) in absurd (omega arith)) (λ g. g) (lt-or-le r.start (alloc_end x)) in
      let y = ih m in
      record { sorted = valid-cons alloc_start alloc_count lo x (put_run r xs) f y.sorted; ins = there x xs (put_run r xs) y.ins }
  put-at lo x xs f v h z ih false true e k =
      let u : r.start < x.start = ltb-true _ _ k in
      let c = f.some in
      let m : alloc_end r ≤ x.start =
      ⊎_elim (λ l. let i = in-first x.start x xs (omega arith) (omega arith) in let o = z x.start (omega arith) l in absurd (omega arith)) (λ g. g) (lt-or-le x.start (alloc_end r)) in
      let s = sides-above (alloc_end x) r.start xs v (omega arith) in
      let w = valid-cons alloc_start alloc_count (alloc_end r) x xs (record { low = m; some = c; high = f.high }) v in
      rw (s.none, s.all)
      (record { sorted = valid-cons alloc_start alloc_count lo r (x ∷ xs) (record { low = h; some = some; high = high }) w; ins = here (x ∷ xs) })
  put-at lo x xs f v h z ih false false e k =
      let u : r.start ≤ x.start = ltb-false _ _ e in
      let w : x.start ≤ r.start = ltb-false _ _ k in
      let c = f.some in
      let i = in-first r.start x xs (omega arith) (omega arith) in
      let o = z r.start (omega arith) (omega arith) in
      absurd (omega arith)

  pub put-ok : (lo : ℕ) (hs : List AllocRec) → valid alloc_start alloc_count lo hs ≡ true → lo ≤ r.start → ((b : ℕ) → r.start ≤ b → b < alloc_end r → holding b hs ≡ 0) → PutOk lo r hs (put_run r hs)
  unfolding side starts_on valid
  put-ok lo [] v h z = record { sorted = valid-cons alloc_start alloc_count lo r [] (record { low = h; some = some; high = high }) refl; ins = here [] }
  put-ok lo (x ∷ xs) v h z =
      let u = valid-uncons alloc_start alloc_count lo x xs v in
      put-at lo x xs u.0 u.1 h z
      (λ m. put-ok (alloc_end x) xs u.1 m (λ b i j. let o = z b i j in let w = weigh-cons alloc_start alloc_count (has b) x xs in omega arith))
      _ _ refl refl

-- ---- a run put behind all others
last-after : (lo : ℕ) (xs : List AllocRec) (y : AllocRec) (ys : List AllocRec) → valid alloc_start alloc_count lo (xs ++ y ∷ ys) ≡ true → lo ≤ y.start
last-after lo [] y ys v = (valid-uncons alloc_start alloc_count lo y ys v).0.low
last-after lo (x ∷ xs) y ys v =
    let u = valid-uncons alloc_start alloc_count lo x (xs ++ y ∷ ys) v in
    let a = u.0.low in
    let b = last-after (alloc_end x) xs y ys u.1 in
    omega arith

pub put_last : (lo : ℕ) (xs : List AllocRec) (y : AllocRec) (ys : List AllocRec) → valid alloc_start alloc_count lo (xs ++ y ∷ ys) ≡ true → put_run y xs ≡ xs ++ y ∷ []
unfolding side starts_on
put_last lo [] y ys v = refl
put_last lo (x ∷ xs) y ys v =
    let u = valid-uncons alloc_start alloc_count lo x (xs ++ y ∷ ys) v in
    let c = u.0.some in
    let a = last-after (alloc_end x) xs y ys u.1 in
    rw (lt-ltb x.start y.start (omega arith), le-ltb y.start x.start (omega arith)) (ap (λ (zs : List AllocRec). x ∷ zs) (put_last (alloc_end x) xs y ys u.1))

-- ---- a held run taken out
pub is-run-facts : (a n : ℕ) (x : AllocRec) → is_run a n x ≡ true → x ≡ block_run a n
is-run-facts a n x e = rw (eqb-true x.start a (left-true _ _ e), eqb-true x.count n (right-true (eqb x.start a) _ e)) refl

any-after-at : (a n lo : ℕ) (x : AllocRec) (xs : List AllocRec) → Follows lo x.start x.count → (any_run a n xs ≡ true → alloc_end x ≤ a) → (t : Bool) → is_run a n x ≡ t → cond t true (any_run a n xs) ≡ true → lo ≤ a
any-after-at a n lo x xs f ih true e v = let l = f.low in let s : x.start ≡ a = ap (λ (r : AllocRec). r.start) (is-run-facts a n x e) in omega arith
any-after-at a n lo x xs f ih false e v = let l = f.low in let m = ih v in omega arith

any-after : (a n lo : ℕ) (xs : List AllocRec) → valid alloc_start alloc_count lo xs ≡ true → any_run a n xs ≡ true → lo ≤ a
unfolding any_run
any-after a n lo [] v e = never e
any-after a n lo (x ∷ xs) v e =
    let u = valid-uncons alloc_start alloc_count lo x xs v in
    any-after-at a n lo x xs u.0 (any-after a n (alloc_end x) xs u.1) (is_run a n x) refl e

drop_at : (a n lo : ℕ) (x : AllocRec) (xs : List AllocRec) → Follows lo x.start x.count → valid alloc_start alloc_count (alloc_end x) xs ≡ true
    → (any_run a n xs ≡ true → Ins (block_run a n) (drop_run a xs) xs) → (t : Bool) → is_run a n x ≡ t → cond t true (any_run a n xs) ≡ true → Ins (block_run a n) (drop_run a (x ∷ xs)) (x ∷ xs)
unfolding side starts_on
drop_at a n lo x xs f v ih true e k =
    let p = is-run-facts a n x e in
    let s : x.start ≡ a = ap (λ (r : AllocRec). r.start) p in
    let c = f.some in
    let o = sides-above (alloc_end x) a xs v (omega arith) in
    rw (le-ltb x.start a (omega arith), le-ltb a x.start (omega arith), o.none, o.all, p) (here xs)
drop_at a n lo x xs f v ih false e k =
    let c = f.some in
    let m = any-after a n (alloc_end x) xs v k in
    rw (lt-ltb x.start a (omega arith), le-ltb a x.start (omega arith)) (there x (drop_run a xs) xs (ih k))

pub drop-ins : (a n lo : ℕ) (hs : List AllocRec) → valid alloc_start alloc_count lo hs ≡ true → any_run a n hs ≡ true → Ins (block_run a n) (drop_run a hs) hs
unfolding any_run
drop-ins a n lo [] v e = never e
drop-ins a n lo (x ∷ xs) v e =
    let u = valid-uncons alloc_start alloc_count lo x xs v in
    drop_at a n lo x xs u.0 u.1 (drop-ins a n (alloc_end x) xs u.1) (is_run a n x) refl e
