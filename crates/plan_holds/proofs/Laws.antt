-- Laws of the held runs, for the loops over them.
-- Assumes nothing.
use mathlib.Core.Path.{◌≡◌, refl, sym, ap, ◌∙◌}
use mathlib.Core.Bool.{Bool, true, false, cond, ◌||◌}
use mathlib.Core.List.{List, [], ◌∷◌, ◌++◌, append-nil}
use Prim.Native.Nat.{ℕ, suc, ◌+◌, ◌-◌, ◌≤◌, ◌<◌}
use native.Mathlib.Omega.{arith}
use borrow.Author.Tests.{lt-ltb, le-ltb, ltb-true, leb-true}
use lib.Dec.{ltb, eqb}
use lib.ListN.{length, set, replicate, length-append, length-take}
use lib.Seq.{set-append_seam, append_snoc, take-append_seam}
use Rattle.std.specs.List.{list_any}
use Rattle.arith.proofs.Both.{left-true}
use Rattle.seqs.specs.Lists.{fold}
use Rattle.btree.specs.declared.records.AllocRec.{AllocRec}
use Rattle.geometry.specs.declared.Geometry.{Geometry}
use Rattle.plan_free.specs.Free.{zero_free_rec, taken}
use Rattle.plan_holds.specs.declared.HeldList.{HeldList}
use Rattle.plan_holds.specs.declared.Holds.{Holds}
use Rattle.plan_holds.specs.Adding.{added_if, added_side}
use Rattle.plan_holds.specs.Holding.{held_of, pack_held, is_run, any_run, starts_on, side, put_run, drop_run, hold_refused, held_with, is_state}

-- ---- the runs of a packed list
pub held-packed : (xs : List AllocRec) → held_of (pack_held xs) ≡ xs
held-packed xs = take-append_seam xs (replicate (8 - length xs) zero_free_rec)

-- ---- a run put behind the last
pub added-packed : (xs : List AllocRec) (r : AllocRec) → length xs < 8 → added_if true (pack_held xs) r ≡ pack_held (xs ++ r ∷ [])
unfolding added_if
added-packed xs r h =
    let n : length (xs ++ r ∷ []) ≡ length xs + 1 = simp length-append in
    let k : 8 - length xs ≡ suc (8 - length (xs ++ r ∷ [])) = omega arith in
    let e : set (xs ++ replicate (8 - length xs) zero_free_rec) (length xs) r ≡ (xs ++ r ∷ []) ++ replicate (8 - length (xs ++ r ∷ [])) zero_free_rec =
    rw k (set-append_seam xs zero_free_rec (replicate (8 - length (xs ++ r ∷ [])) zero_free_rec) r ∙ sym (append_snoc xs r (replicate (8 - length (xs ++ r ∷ [])) zero_free_rec))) in
    rw (lt-ltb (length xs) 8 h) (cc)

-- not put
pub added-not : (l : HeldList) (r : AllocRec) → added_if false l r ≡ l
unfolding added_if
added-not l r = refl

-- ---- the runs on one side
side-fold-at : (low : Bool) (a : ℕ) (xs : List AllocRec) (r : AllocRec) (rs : List AllocRec) (t : Bool) → starts_on low a r ≡ t
    → ((ys : List AllocRec) → length ys + length (side low a rs) ≤ 8 → fold (added_side low a) (pack_held ys) rs ≡ pack_held (ys ++ side low a rs))
    → length xs + length (cond t (r ∷ side low a rs) (side low a rs)) ≤ 8
    → fold (added_side low a) (added_if t (pack_held xs) r) rs ≡ pack_held (xs ++ cond t (r ∷ side low a rs) (side low a rs))
side-fold-at low a xs r rs true e ih h =
    let n : length (xs ++ r ∷ []) ≡ length xs + 1 = simp length-append in
    rw (added-packed xs r (omega arith)) (ih (xs ++ r ∷ []) (omega arith) ∙ ap pack_held (append_snoc xs r (side low a rs)))
side-fold-at low a xs r rs false e ih h = rw (added-not (pack_held xs) r) (ih xs h)

pub side-fold : (low : Bool) (a : ℕ) (rs xs : List AllocRec) → length xs + length (side low a rs) ≤ 8 → fold (added_side low a) (pack_held xs) rs ≡ pack_held (xs ++ side low a rs)
unfolding fold side
side-fold low a [] xs h = rw append-nil
side-fold low a (r ∷ rs) xs h = side-fold-at low a xs r rs (starts_on low a r) refl (side-fold low a rs) h

-- no run is on both sides
sides-at : (a : ℕ) (r : AllocRec) (xs ys : List AllocRec) (k : ℕ) (x y : Bool) → ltb r.start a ≡ x → ltb a r.start ≡ y → length xs + length ys ≤ k
    → length (cond x (r ∷ xs) xs) + length (cond y (r ∷ ys) ys) ≤ suc k
sides-at a r xs ys k true true e f h =
    let u : r.start < a = ltb-true _ _ e in
    let v : a < r.start = ltb-true _ _ f in
    absurd (omega arith)
sides-at a r xs ys k true false e f h = omega arith
sides-at a r xs ys k false true e f h = omega arith
sides-at a r xs ys k false false e f h = omega arith

pub sides-length : (a : ℕ) (rs : List AllocRec) → length (side true a rs) + length (side false a rs) ≤ length rs
unfolding side starts_on
sides-length a [] = omega arith
sides-length a (r ∷ rs) = sides-at a r (side true a rs) (side false a rs) (length rs) _ _ refl refl (sides-length a rs)

held-most : (h : HeldList) → length (held_of h) ≤ h.len
held-most h = simp length-take (omega arith)

-- ---- what `put_run` and `drop_run` make of the list
pub put-made : (h : HeldList) (r : AllocRec) → h.len < 8
    → fold (added_side false r.start) (added_if true (fold (added_side true r.start) (pack_held []) (held_of h)) r) (held_of h) ≡ pack_held (put_run r (held_of h))
put-made h r l =
    let m = held-most h in
    let s = sides-length r.start (held_of h) in
    let n : length (side true r.start (held_of h) ++ r ∷ []) ≡ length (side true r.start (held_of h)) + 1 = simp length-append in
    rw (side-fold true r.start (held_of h) [] (omega arith), added-packed (side true r.start (held_of h)) r (omega arith))
    (side-fold false r.start (held_of h) (side true r.start (held_of h) ++ r ∷ []) (omega arith)
    ∙ ap pack_held (append_snoc (side true r.start (held_of h)) r (side false r.start (held_of h))))

pub drop-made : (h : HeldList) (a : ℕ) → h.len ≤ 8
    → fold (added_side false a) (fold (added_side true a) (pack_held []) (held_of h)) (held_of h) ≡ pack_held (drop_run a (held_of h))
drop-made h a l =
    let m = held-most h in
    let s = sides-length a (held_of h) in
    rw (side-fold true a (held_of h) [] (omega arith)) (side-fold false a (held_of h) (side true a (held_of h)) (omega arith))

pub dropped-few : (h : HeldList) (a : ℕ) → h.len ≤ 8 → length (drop_run a (held_of h)) ≤ 8
dropped-few h a l =
    let m = held-most h in
    let s = sides-length a (held_of h) in
    let n : length (drop_run a (held_of h)) ≡ length (side true a (held_of h)) + length (side false a (held_of h)) = simp length-append in
    omega arith

-- ---- the search for a run
or-is : (b x : Bool) → (b || x) ≡ cond b true x
or-is true x = refl
or-is false x = refl

pub any-is : (a n : ℕ) (rs : List AllocRec) → list_any (is_run a n) rs ≡ any_run a n rs
unfolding any_run
any-is a n [] = refl
any-is a n (r ∷ rs) = or-is (is_run a n r) (list_any (is_run a n) rs) ∙ ap (λ (t : Bool). cond (is_run a n r) true t) (any-is a n rs)

-- ---- a run that isn't held: 42 where it is empty or not free, before 34 where eight are held
module _ (s : Holds) (a n : ℕ) where
  pub empty-refused : n ≤ 0 → hold_refused 42 ≡ held_with s a n
  unfolding held_with
  empty-refused h = rw (le-ltb 0 n h) refl

  pub unfree-refused : 0 < n → eqb (taken s.free a n).number 0 ≡ false → hold_refused 42 ≡ held_with s a n
  unfolding held_with
  unfree-refused h t = rw (lt-ltb 0 n h, t) refl

  pub full-refused : 0 < n → eqb (taken s.free a n).number 0 ≡ true → 8 ≤ s.held.len → hold_refused 34 ≡ held_with s a n
  unfolding held_with
  full-refused h t l = rw (lt-ltb 0 n h, t, le-ltb s.held.len 8 l) refl

-- ---- a state holds at most eight runs
pub state-few : (g : Geometry) (s : Holds) → is_state g s ≡ true → s.held.len ≤ 8
unfolding is_state
state-few g s e = leb-true s.held.len 8 (left-true _ _ e)
