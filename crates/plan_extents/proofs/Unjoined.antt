-- A list in which no two neighbours join is left as such a list by `rmap_insert`.
-- Assumes nothing.
use mathlib.Core.Path.{◌≡◌, refl, sym, ap, ◌∙◌}
use mathlib.Core.Bool.{Bool, true, false, ◌&&◌}
use mathlib.Core.List.{List, [], ◌∷◌, ◌++◌}
use Prim.Native.Nat.{ℕ, ◌+◌, ◌-◌, ◌≤◌, ◌<◌}
use native.Mathlib.Omega.{arith}
use borrow.Author.Tests.{ltb-true, ltb-false}
use lib.Dec.{ltb, eqb}
use lib.ListN.{length, take, drop, get_or, length-drop, take-append-drop}
use Rattle.btree.specs.declared.records.RmapRec.{RmapRec}
use Rattle.plan_rmap.specs.Rmap.{zero_rmap_rec, rmap_end, joins, glued, joins_left, joins_right, joined_at}
use Rattle.plan_extents.specs.Inserts.{Unjoined}
use Rattle.plan_extents.proofs.Join.{nil-of, joins-facts, put-left, put_right, left-facts, right-facts}

-- ---- a list cut at an element that both parts keep
unjoined-parts : (xs : List RmapRec) (y : RmapRec) (ys : List RmapRec) → Unjoined (xs ++ y ∷ ys) → Unjoined (xs ++ y ∷ []) × Unjoined (y ∷ ys)
unjoined-parts [] y ys u = (tt, u)
unjoined-parts (x ∷ []) y ys u = ((u.0, tt), u.1)
unjoined-parts (x ∷ z ∷ xs) y ys u = let w = unjoined-parts (z ∷ xs) y ys u.1 in ((u.0, w.0), w.1)

unjoined-whole : (xs : List RmapRec) (y : RmapRec) (ys : List RmapRec) → Unjoined (xs ++ y ∷ []) → Unjoined (y ∷ ys) → Unjoined (xs ++ y ∷ ys)
unjoined-whole [] y ys u w = w
unjoined-whole (x ∷ []) y ys u w = (u.0, w)
unjoined-whole (x ∷ z ∷ xs) y ys u w = (u.0, unjoined-whole (z ∷ xs) y ys u.1 w)

-- the last element replaced by one that joins what it joins; the first
unjoined-last : (xs : List RmapRec) (y g : RmapRec) → ((x : RmapRec) → joins x g ≡ joins x y) → Unjoined (xs ++ y ∷ []) → Unjoined (xs ++ g ∷ [])
unjoined-last [] y g e u = tt
unjoined-last (x ∷ []) y g e u = (e x ∙ u.0, tt)
unjoined-last (x ∷ z ∷ xs) y g e u = (u.0, unjoined-last (z ∷ xs) y g e u.1)

unjoined-first : (y g : RmapRec) (ys : List RmapRec) → ((x : RmapRec) → joins g x ≡ joins y x) → Unjoined (y ∷ ys) → Unjoined (g ∷ ys)
unjoined-first y g [] e u = tt
unjoined-first y g (z ∷ ys) e u = (e z ∙ u.0, u.1)

-- what two that join join together is what the second joins
glued-joins : (a b x : RmapRec) → joins a b ≡ true → joins (glued a b) x ≡ joins b x
glued-joins a b x j =
    let f = joins-facts a b j in
    let m = f.meet in
    let e : a.start + (a.count + b.count) ≡ rmap_end b = omega arith in
    same-joins a.owner b.owner (a.start + (a.count + b.count)) (rmap_end b) x f.owner e
  where
    same-joins : (o p d e : ℕ) (x : RmapRec) → o ≡ p → d ≡ e → (eqb o x.owner && eqb d x.start) ≡ (eqb p x.owner && eqb e x.start)
    same-joins o p d e x f g = rw (f, g)

-- ---- the records before the place, and from it on, with g at the place
module _ (xs : List RmapRec) (p : ℕ) (r : RmapRec) (h : p ≤ length xs) (u : Unjoined xs) where
  left-part : 0 < p → Unjoined (take (p - 1) xs ++ get_or xs (p - 1) zero_rmap_rec ∷ [])
  left-part k =
      let e : xs ≡ take (p - 1) xs ++ get_or xs (p - 1) zero_rmap_rec ∷ drop p xs = sym (take-append-drop p xs) ∙ put-left xs p (drop p xs) k h in
      (unjoined-parts (take (p - 1) xs) (get_or xs (p - 1) zero_rmap_rec) (drop p xs) (rw e at u)).0

  right-part : p < length xs → Unjoined (get_or xs p zero_rmap_rec ∷ drop (p + 1) xs)
  right-part k =
      let e : xs ≡ take p xs ++ get_or xs p zero_rmap_rec ∷ drop (p + 1) xs = sym (take-append-drop p xs) ∙ ap (λ (ys : List RmapRec). take p xs ++ ys) (put_right xs p k) in
      (unjoined-parts (take p xs) (get_or xs p zero_rmap_rec) (drop (p + 1) xs) (rw e at u)).1

  left-joined : joins_left xs p r ≡ true → (g : RmapRec) → ((x : RmapRec) → joins x g ≡ joins x (get_or xs (p - 1) zero_rmap_rec)) → Unjoined (take (p - 1) xs ++ g ∷ [])
  left-joined e g f = unjoined-last (take (p - 1) xs) (get_or xs (p - 1) zero_rmap_rec) g f (left-part (left-facts xs p r e).some)

  right-joined : joins_right xs p r ≡ true → (g : RmapRec) → ((x : RmapRec) → joins g x ≡ joins (get_or xs p zero_rmap_rec) x) → Unjoined (g ∷ drop (p + 1) xs)
  right-joined e g f = unjoined-first (get_or xs p zero_rmap_rec) g (drop (p + 1) xs) f (right-part (right-facts xs p r e).some)

  left-apart : (t : Bool) → ltb 0 p ≡ t → joins_left xs p r ≡ false → (g : RmapRec) → ((x : RmapRec) → joins x g ≡ joins x r) → Unjoined (take p xs ++ g ∷ [])
  unfolding joins_left
  left-apart false z e g f = let k : p ≡ 0 = let q = ltb-false 0 p z in omega arith in rw k tt
  left-apart true z e g f =
      let k : 0 < p = ltb-true 0 p z in
      let n : joins (get_or xs (p - 1) zero_rmap_rec) r ≡ false = rw z at e in
      rw (put-left xs p (g ∷ []) k h) (unjoined-whole (take (p - 1) xs) (get_or xs (p - 1) zero_rmap_rec) (g ∷ []) (left-part k) (f (get_or xs (p - 1) zero_rmap_rec) ∙ n, tt))

  right-apart : (t : Bool) → ltb p (length xs) ≡ t → joins_right xs p r ≡ false → (g : RmapRec) → ((x : RmapRec) → joins g x ≡ joins r x) → Unjoined (g ∷ drop p xs)
  unfolding joins_right
  right-apart false z e g f =
      let k : length (drop p xs) ≡ 0 = let q = ltb-false p (length xs) z in length-drop p xs ∙ omega arith in
      rw (nil-of (drop p xs) k) tt
  right-apart true z e g f =
      let k : p < length xs = ltb-true p (length xs) z in
      let n : joins r (get_or xs p zero_rmap_rec) ≡ false = rw z at e in
      rw (put_right xs p k) (f (get_or xs p zero_rmap_rec) ∙ n, right-part k)

  pub unjoined-by : (x y : Bool) → joins_left xs p r ≡ x → joins_right xs p r ≡ y → Unjoined (joined_at x y xs p r)
  unjoined-by true true e f =
      let a = (left-facts xs p r e).joined in
      let b = (right-facts xs p r f).joined in
      unjoined-whole (take (p - 1) xs) (glued (glued (get_or xs (p - 1) zero_rmap_rec) r) (get_or xs p zero_rmap_rec)) (drop (p + 1) xs)
      (left-joined e (glued (glued (get_or xs (p - 1) zero_rmap_rec) r) (get_or xs p zero_rmap_rec)) (λ x. refl))
      (right-joined f (glued (glued (get_or xs (p - 1) zero_rmap_rec) r) (get_or xs p zero_rmap_rec)) (λ x. glued-joins (glued (get_or xs (p - 1) zero_rmap_rec) r) (get_or xs p zero_rmap_rec) x (glued-joins (get_or xs (p - 1) zero_rmap_rec) r (get_or xs p zero_rmap_rec) a ∙ b)))
  unjoined-by true false e f =
      let a = (left-facts xs p r e).joined in
      unjoined-whole (take (p - 1) xs) (glued (get_or xs (p - 1) zero_rmap_rec) r) (drop p xs)
      (left-joined e (glued (get_or xs (p - 1) zero_rmap_rec) r) (λ x. refl))
      (right-apart _ refl f (glued (get_or xs (p - 1) zero_rmap_rec) r) (λ x. glued-joins (get_or xs (p - 1) zero_rmap_rec) r x a))
  unjoined-by false true e f =
      let b = (right-facts xs p r f).joined in
      unjoined-whole (take p xs) (glued r (get_or xs p zero_rmap_rec)) (drop (p + 1) xs)
      (left-apart _ refl e (glued r (get_or xs p zero_rmap_rec)) (λ x. refl))
      (right-joined f (glued r (get_or xs p zero_rmap_rec)) (λ x. glued-joins r (get_or xs p zero_rmap_rec) x b))
  unjoined-by false false e f = unjoined-whole (take p xs) r (drop p xs) (left-apart _ refl e r (λ x. refl)) (right-apart _ refl f r (λ x. refl))
