-- Lists of runs with a block at least between any two: the blocks that they have fix them, and `take` leaves such a list.
-- Assumes nothing.
use mathlib.Core.Path.{◌≡◌, refl, sym, ap, ◌∙◌}
use mathlib.Core.Bool.{Bool, true, false, cond}
use mathlib.Core.List.Memᴰ
use mathlib.Core.List.{List, [], ◌∷◌, ◌++◌}
use mathlib.Core.Logic.{⊎_elim}
use Prim.Native.Nat.{ℕ, ◌+◌, ◌-◌, ◌≤◌, ◌<◌, ◌^◌}
use native.Mathlib.Numerals.{add-one}
use native.Mathlib.Omega.{arith}
use borrow.Author.Tests.{ltb-true}
use lib.Dec.{ltb}
use lib.ListN.{length, take, drop, get_or}
use lib.Seq.{split_at}
use Rattle.seqs.specs.Runs.{valid, weigh, has}
use Rattle.seqs.proofs.Laws.{lt-or-le, length-put}
use Rattle.seqs.proofs.Parts.{valid-cons, valid-lower}
use Rattle.seqs.proofs.Weights.{inside-in, inside-above, weigh-cons, valid-once}
use Rattle.btree.specs.declared.records.AllocRec.{AllocRec}
use Rattle.plan_free.specs.declared.FreeList.{FreeList}
use Rattle.plan_free.specs.Free.{zero_free_rec, free_of, pack_free, alloc_start, alloc_count, alloc_end, without_run, taken}
use Rattle.plan_free.proofs.Laws.{holder, held, left_of, taken-ok}
use Rattle.plan_free.proofs.Uses.{free-packed}
use Rattle.plan_extents.specs.Takes.{WithinRecord, holding, NoneHolds}
use Rattle.plan_holds_laws.specs.Calls.{Separate}

-- ---- as valid lists
pub sep-valid : (lo : ℕ) (rs : List AllocRec) → Separate lo rs → valid alloc_start alloc_count lo rs ≡ true
unfolding valid
sep-valid lo [] s = refl
sep-valid lo (r ∷ rs) s =
    valid-cons alloc_start alloc_count lo r rs (record { low = s.0; some = s.1; high = s.2 })
    (valid-lower alloc_start alloc_count (alloc_end r + 1) (alloc_end r) rs (omega arith) (sep-valid (alloc_end r + 1) rs s.3))

pub sep-lower : (lo low : ℕ) (rs : List AllocRec) → low ≤ lo → Separate lo rs → Separate low rs
sep-lower lo low [] h s = tt
sep-lower lo low (r ∷ rs) h s = let a = s.0 in (omega arith, s.1, s.2, s.3)

pub sep-below : (lo b : ℕ) (rs : List AllocRec) → Separate lo rs → b < lo → holding b rs ≡ 0
sep-below lo b rs s h = (valid-once alloc_start alloc_count lo rs b (sep-valid lo rs s)).below h

-- ---- a block and the first of the runs
module _ (b : ℕ) (r : AllocRec) (rs : List AllocRec) where
  pub in-first : r.start ≤ b → b < alloc_end r → holding b (r ∷ rs) ≡ 1 + holding b rs
  in-first h k = let w = weigh-cons alloc_start alloc_count (has b) r rs in let i = inside-in r.start (alloc_end r) b h k in omega arith

  pub past_first : alloc_end r ≤ b → holding b (r ∷ rs) ≡ holding b rs
  past_first h = let w = weigh-cons alloc_start alloc_count (has b) r rs in let i = inside-above r.start (alloc_end r) b h in omega arith

-- ---- the blocks fix the list
record_same : (x y : AllocRec) → x.start ≡ y.start → x.count ≡ y.count → x ≡ y
record_same x y e f = rw (e, f) refl

module _ (lo lo' : ℕ) (x y : AllocRec) (xs ys : List AllocRec) (s : Separate lo (x ∷ xs)) (t : Separate lo' (y ∷ ys)) (e : (b : ℕ) → holding b (x ∷ xs) ≡ holding b (y ∷ ys)) where
  starts-not-before : y.start ≤ x.start
  starts-not-before =
      ⊎_elim
      (λ l. let a = s.1 in
      let i = in-first x.start x xs (omega arith) (omega arith) in
      let z = sep-below y.start x.start (y ∷ ys) (omega arith, t.1, t.2, t.3) l in
      let q = e x.start in
      absurd (omega arith))
      (λ h. h)
      (lt-or-le x.start y.start)

  ends-not-before : x.start ≡ y.start → alloc_end x ≤ alloc_end y
  ends-not-before f =
      ⊎_elim
      (λ l. let a = t.1 in
      let i = in-first (alloc_end y) x xs (omega arith) l in
      let p = past_first (alloc_end y) y ys (omega arith) in
      let z = sep-below (alloc_end y + 1) (alloc_end y) ys t.3 (omega arith) in
      let q = e (alloc_end y) in
      absurd (omega arith))
      (λ h. h)
      (lt-or-le (alloc_end y) (alloc_end x))

  rests-same : x ≡ y → (b : ℕ) → holding b xs ≡ holding b ys
  rests-same f b =
      let u = weigh-cons alloc_start alloc_count (has b) x xs in
      let v = weigh-cons alloc_start alloc_count (has b) y ys in
      let w : has b x.start (alloc_end x) ≡ has b y.start (alloc_end y) = ap (λ (r : AllocRec). has b r.start (alloc_end r)) f in
      let q = e b in
      omega arith

some_first : (lo : ℕ) (x : AllocRec) (xs : List AllocRec) → Separate lo (x ∷ xs) → 0 < holding x.start (x ∷ xs)
some_first lo x xs s = let a = s.1 in let i = in-first x.start x xs (omega arith) (omega arith) in omega arith

none_of : (b : ℕ) → holding b [] ≡ 0
unfolding weigh
none_of b = refl

pub separate-same : (lo lo' : ℕ) (xs ys : List AllocRec) → Separate lo xs → Separate lo' ys → ((b : ℕ) → holding b xs ≡ holding b ys) → xs ≡ ys
separate-same lo lo' [] [] s t e = refl
separate-same lo lo' [] (y ∷ ys) s t e =
    let f = some_first lo' y ys t in let n = none_of y.start in let q = e y.start in absurd (omega arith)
separate-same lo lo' (x ∷ xs) [] s t e =
    let f = some_first lo x xs s in let n = none_of x.start in let q = e x.start in absurd (omega arith)
separate-same lo lo' (x ∷ xs) (y ∷ ys) s t e =
    let a = starts-not-before lo lo' x y xs ys s t e in
    let b = starts-not-before lo' lo y x ys xs t s (λ c. sym (e c)) in
    let f : x.start ≡ y.start = omega arith in
    let c = ends-not-before lo lo' x y xs ys s t e f in
    let d = ends-not-before lo' lo y x ys xs t s (λ c. sym (e c)) (sym f) in
    let p : x ≡ y = record_same x y f (omega arith) in
    let r = separate-same (alloc_end x + 1) (alloc_end y + 1) xs ys s.3 t.3 (rests-same lo lo' x y xs ys s t e p) in
    rw (p, r) refl

-- ---- a run whose blocks are all there lies within one of the records
pub one_holds : (lo : ℕ) (xs : List AllocRec) → Separate lo xs → (a n : ℕ) → 0 < n → ((b : ℕ) → a ≤ b → b < a + n → 0 < holding b xs) → NoneHolds xs a (a + n) → ⊥
one_holds lo [] s a n h f none = let p = f a (omega arith) (omega arith) in let z = none_of a in absurd (omega arith)
one_holds lo (x ∷ xs) s a n h f none =
    ⊎_elim
    (λ l. let p = f a (omega arith) (omega arith) in let z = sep-below x.start a (x ∷ xs) (omega arith, s.1, s.2, s.3) l in absurd (omega arith))
    (λ g. ⊎_elim
    (λ l. ⊎_elim
    (λ m. let p = f (alloc_end x) (omega arith) m in
    let q = past_first (alloc_end x) x xs (omega arith) in
    let z = sep-below (alloc_end x + 1) (alloc_end x) xs s.3 (omega arith) in
    absurd (omega arith))
    (λ m. none x (Memᴰ.head refl) (record { low = g; high = m }))
    (lt-or-le (alloc_end x) (a + n)))
    (λ m. one_holds (alloc_end x + 1) xs s.3 a n h
    (λ b i j. let p = f b i j in let q = past_first b x xs (omega arith) in omega arith)
    (λ r i. none r (Memᴰ.tail i)))
    (lt-or-le a (alloc_end x)))
    (lt-or-le a x.start)

-- ---- `take` leaves such a list
module _ (lo s e : ℕ) (r : AllocRec) (zs : List AllocRec) (low : lo ≤ r.start) (h : r.start ≤ s) (k : s < e) (m : e ≤ alloc_end r) (high : alloc_end r < 2 ^ 32) (t : Separate (alloc_end r + 1) zs) where
  cut_at : (x y : Bool) → ltb r.start s ≡ x → ltb e (alloc_end r) ≡ y
      → Separate lo ((cond x (record { start = r.start; count = s - r.start } ∷ []) [] ++ cond y (record { start = e; count = alloc_end r - e } ∷ []) []) ++ zs)
  cut_at true true p q =
      let u : r.start < s = ltb-true _ _ p in
      let v : e < alloc_end r = ltb-true _ _ q in
      (low, omega arith, omega arith, (omega arith, omega arith, omega arith, sep-lower (alloc_end r + 1) (e + (alloc_end r - e) + 1) zs (omega arith) t))
  cut_at true false p q =
      let u : r.start < s = ltb-true _ _ p in
      (low, omega arith, omega arith, sep-lower (alloc_end r + 1) (r.start + (s - r.start) + 1) zs (omega arith) t)
  cut_at false true p q =
      let v : e < alloc_end r = ltb-true _ _ q in
      (omega arith, omega arith, omega arith, sep-lower (alloc_end r + 1) (e + (alloc_end r - e) + 1) zs (omega arith) t)
  cut_at false false p q = sep-lower (alloc_end r + 1) lo zs (omega arith) t

  cut-separate : Separate lo (without_run s e r ++ zs)
  unfolding without_run
  cut-separate = cut_at _ _ refl refl

splice-separate : (lo s e : ℕ) (ys : List AllocRec) (r : AllocRec) (zs : List AllocRec) → Separate lo (ys ++ r ∷ zs) → r.start ≤ s → s < e → e ≤ alloc_end r → Separate lo (ys ++ (without_run s e r ++ zs))
splice-separate lo s e [] r zs p h k m = cut-separate lo s e r zs p.0 h k m p.2 p.3
splice-separate lo s e (y ∷ ys) r zs p h k m = (p.0, p.1, p.2, splice-separate (alloc_end y + 1) s e ys r zs p.3 h k m)

cut-few-at : (r p q : AllocRec) (x y : Bool) → length (cond x (p ∷ []) [] ++ cond y (q ∷ []) []) ≤ 2
cut-few-at r p q true true = omega arith
cut-few-at r p q true false = omega arith
cut-few-at r p q false true = omega arith
cut-few-at r p q false false = omega arith

cut-few : (s e : ℕ) (r : AllocRec) → length (without_run s e r) ≤ 2
unfolding without_run
cut-few s e r = cut-few-at r _ _ (ltb r.start s) (ltb e (alloc_end r))

module _ (l : FreeList) (a n : ℕ) (some : 0 < n) (q : (taken l a n).number ≡ 0) where
  left_is : free_of (taken l a n).list ≡ left_of (free_of l) a (a + n)
  left_is = ap free_of (taken-ok l a n q).same ∙ free-packed (left_of (free_of l) a (a + n))

  pub taken-separate : Separate 0 (free_of l) → Separate 0 (free_of (taken l a n).list)
  taken-separate s =
      let o = taken-ok l a n q in
      let i = holder (free_of l) a (a + n) in
      let e : free_of l ≡ take i (free_of l) ++ get_or (free_of l) i zero_free_rec ∷ drop (i + 1) (free_of l) = rw add-one (split_at (free_of l) i zero_free_rec o.below) in
      rw left_is
      (splice-separate 0 a (a + n) (take i (free_of l)) (held (free_of l) a (a + n)) (drop (i + 1) (free_of l)) (rw e at s) o.low (omega arith) o.high)

  pub taken-length : length (free_of (taken l a n).list) ≤ length (free_of l) + 1
  taken-length =
      let o = taken-ok l a n q in
      let i = holder (free_of l) a (a + n) in
      let b = o.below in
      let p = length-put (free_of l) i (i + 1) (without_run a (a + n) (held (free_of l) a (a + n))) (omega arith) in
      let c = cut-few a (a + n) (held (free_of l) a (a + n)) in
      let z : length (free_of (taken l a n).list) ≡ length (left_of (free_of l) a (a + n)) = ap (λ (xs : List AllocRec). length xs) left_is in
      omega arith

  pub taken-slots : (taken l a n).list ≡ pack_free (free_of (taken l a n).list)
  taken-slots = (taken-ok l a n q).same ∙ ap pack_free (sym left_is)
