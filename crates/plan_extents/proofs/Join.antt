-- A record put in, and joined with its neighbours: what that keeps.
-- Assumes nothing.
use mathlib.Core.Path.{◌≡◌, refl, sym, ap, ◌∙◌}
use mathlib.Core.Bool.{Bool, true, false, cond}
use mathlib.Core.List.{List, [], ◌∷◌, ◌++◌}
use Prim.Native.Nat.{ℕ, zero, suc, ◌+◌, ◌-◌, ◌≤◌, ◌<◌}
use native.Mathlib.Omega.{arith}
use native.Mathlib.Numerals.{add-one}
use borrow.Author.Tests.{ltb-true, eqb-true, eq-eqb}
use lib.Dec.{ltb, eqb}
use lib.ListN.{length, take, drop, get_or, replicate}
use lib.Seq.{take-suc, drop-cons, append_snoc, take-append_seam}
use Rattle.seqs.specs.Lists.{spliced, total}
use Rattle.seqs.specs.Runs.{valid, has}
use Rattle.seqs.proofs.Laws.{never, both_left, both_right, total-append, total-cons}
use Rattle.seqs.proofs.Parts.{Follows, ended, valid-uncons, valid-cons, valid-join, valid-unjoin}
use Rattle.seqs.proofs.Weights.{Additive, additive-has}
use Rattle.btree.specs.declared.records.RmapRec.{RmapRec}
use Rattle.plan_rmap.specs.Rmap.{zero_rmap_rec, rmap_of, pack_rmap, rmap_start, rmap_count, rmap_end, joins, glued, joins_left, joins_right, joined_at}
use Rattle.plan_extents.specs.Inserts.{holds_block, owns_block}

pub nil-of : (xs : List RmapRec) → length xs ≡ 0 → xs ≡ []
nil-of [] e = refl
nil-of (x ∷ xs) e = absurd (omega arith)

pub rmap-packed : (xs : List RmapRec) → rmap_of (pack_rmap xs) ≡ xs
rmap-packed xs = take-append_seam xs (replicate (64 - length xs) zero_rmap_rec)

-- ys is xs with neighbours that join, of one owner and without a gap, put together
pub data Joined : List RmapRec → List RmapRec → Type 0 where
  same : {xs ys : List RmapRec} → xs ≡ ys → Joined xs ys
  join : {xs ys : List RmapRec} (us : List RmapRec) (a b : RmapRec) (vs : List RmapRec) → xs ≡ us ++ a ∷ b ∷ vs → joins a b ≡ true → Joined (us ++ glued a b ∷ vs) ys → Joined xs ys

-- ---- two records that join
pub record Joins (a b : RmapRec) : Type 0 where
  pub owner : a.owner ≡ b.owner
  pub meet : rmap_end a ≡ b.start

pub joins-facts : (a b : RmapRec) → joins a b ≡ true → Joins a b
joins-facts a b e =
    record {
      owner = eqb-true _ _ (both_left (eqb a.owner b.owner) (eqb (rmap_end a) b.start) e);
      meet = eqb-true _ _ (both_right (eqb a.owner b.owner) (eqb (rmap_end a) b.start) e);
    }

-- ---- what joining keeps
glued-follows : (lo : ℕ) (a b : RmapRec) → Joins a b → Follows lo a.start a.count → Follows (rmap_end a) b.start b.count → Follows lo a.start (a.count + b.count)
glued-follows lo a b j f g =
    let m = j.meet in
    let s = f.some in
    let h = g.high in
    record { low = f.low; some = omega arith; high = omega arith }

pub joined-valid : (lo : ℕ) (xs ys : List RmapRec) → Joined xs ys → valid rmap_start rmap_count lo xs ≡ true → valid rmap_start rmap_count lo ys ≡ true
joined-valid lo xs ys (same e) v = rw (← e) v
joined-valid lo xs ys (join us a b vs e j k) v =
    let w = valid-unjoin rmap_start rmap_count lo us (a ∷ b ∷ vs) (rw e at v) in
    let f = valid-uncons rmap_start rmap_count (ended rmap_start rmap_count lo us) a (b ∷ vs) w.1 in
    let g = valid-uncons rmap_start rmap_count (rmap_end a) b vs f.1 in
    let q = joins-facts a b j in
    let m = q.meet in
    let d : a.start + (a.count + b.count) ≡ rmap_end b = omega arith in
    joined-valid lo (us ++ glued a b ∷ vs) ys k
    (valid-join rmap_start rmap_count lo us (glued a b ∷ vs) w.0 (valid-cons rmap_start rmap_count (ended rmap_start rmap_count lo us) (glued a b) vs (glued-follows (ended rmap_start rmap_count lo us) a b q f.0 g.0) (rw d g.1)))

-- a number of each record that adds up where two join adds up to the same
module _ (g : RmapRec → ℕ) (adds : (a b : RmapRec) → joins a b ≡ true → g (glued a b) ≡ g a + g b) where
  pub joined-total : (xs ys : List RmapRec) → Joined xs ys → total g xs ≡ total g ys
  joined-total xs ys (same e) = ap (total g) e
  joined-total xs ys (join us a b vs e j k) =
      let i = joined-total (us ++ glued a b ∷ vs) ys k in
      let u : total g xs ≡ total g (us ++ a ∷ b ∷ vs) = ap (total g) e in
      let p = total-append g us (a ∷ b ∷ vs) in
      let q = total-cons g a (b ∷ vs) in
      let r = total-cons g b vs in
      let s = total-append g us (glued a b ∷ vs) in
      let t = total-cons g (glued a b) vs in
      let w = adds a b j in
      omega arith

meet-split : (f : ℕ → ℕ → ℕ) → Additive f → (a m b n : ℕ) → a + m ≡ b → f a (a + (m + n)) ≡ f a (a + m) + f b (b + n)
meet-split f add a m b n h =
    let e : a + (m + n) ≡ b + n = omega arith in
    rw (e, h) (add.split a b (b + n) (omega arith) (omega arith))

choose-adds : (t u : Bool) (x y z : ℕ) → t ≡ u → z ≡ x + y → cond t z 0 ≡ cond t x 0 + cond u y 0
choose-adds true true x y z h e = e
choose-adds true false x y z h e = never (sym h)
choose-adds false true x y z h e = never h
choose-adds false false x y z h e = refl

pub holds-adds : (k : ℕ) (a b : RmapRec) → joins a b ≡ true → holds_block k (glued a b) ≡ holds_block k a + holds_block k b
holds-adds k a b j = meet-split (has k) (additive-has k) a.start a.count b.start b.count (joins-facts a b j).meet

pub owns-adds : (o k : ℕ) (a b : RmapRec) → joins a b ≡ true → owns_block o k (glued a b) ≡ owns_block o k a + owns_block o k b
owns-adds o k a b j =
    choose-adds (eqb a.owner o) (eqb b.owner o) (holds_block k a) (holds_block k b) (holds_block k (glued a b)) (ap (λ (w : ℕ). eqb w o) (joins-facts a b j).owner) (holds-adds k a b j)

-- ---- the record put in and joined with its neighbours
pub put-left : (xs : List RmapRec) (p : ℕ) (ys : List RmapRec) → 0 < p → p ≤ length xs → take p xs ++ ys ≡ take (p - 1) xs ++ get_or xs (p - 1) zero_rmap_rec ∷ ys
put-left xs zero ys h k = absurd (omega arith)
put-left xs (suc q) ys h k = let e : suc q - 1 ≡ q = omega arith in rw (e, take-suc xs q zero_rmap_rec k) (append_snoc (take q xs) (get_or xs q zero_rmap_rec) ys)

pub put_right : (xs : List RmapRec) (p : ℕ) → p < length xs → drop p xs ≡ get_or xs p zero_rmap_rec ∷ drop (p + 1) xs
put_right xs p h = rw add-one (drop-cons xs p zero_rmap_rec h)

-- what joins the second of two that join joins them both
joins-on : (a r b : RmapRec) → joins a r ≡ true → joins r b ≡ true → joins (glued a r) b ≡ true
joins-on a r b j k =
    let x = joins-facts a r j in
    let y = joins-facts r b k in
    let m = x.meet in
    let n = y.meet in
    let e : rmap_end (glued a r) ≡ b.start = omega arith in
    rw (eq-eqb a.owner b.owner (x.owner ∙ y.owner), eq-eqb (rmap_end (glued a r)) b.start e)

-- the records with r put in at index p
abbrev pub with_rec : List RmapRec → ℕ → RmapRec → List RmapRec
with_rec xs p r = joined_at (joins_left xs p r) (joins_right xs p r) xs p r

module _ (xs : List RmapRec) (p : ℕ) (r : RmapRec) where
  pub record Left : Type 0 where
    pub some : 0 < p
    pub joined : joins (get_or xs (p - 1) zero_rmap_rec) r ≡ true

  pub record Right : Type 0 where
    pub some : p < length xs
    pub joined : joins r (get_or xs p zero_rmap_rec) ≡ true

  pub left-facts : joins_left xs p r ≡ true → Left
  unfolding joins_left
  left-facts e =
      record {
        some = ltb-true _ _ (both_left (ltb 0 p) (joins (get_or xs (p - 1) zero_rmap_rec) r) e);
        joined = both_right (ltb 0 p) (joins (get_or xs (p - 1) zero_rmap_rec) r) e;
      }

  pub right-facts : joins_right xs p r ≡ true → Right
  unfolding joins_right
  right-facts e =
      record {
        some = ltb-true _ _ (both_left (ltb p (length xs)) (joins r (get_or xs p zero_rmap_rec)) e);
        joined = both_right (ltb p (length xs)) (joins r (get_or xs p zero_rmap_rec)) e;
      }

  pub joined_by : p ≤ length xs → (x y : Bool) → joins_left xs p r ≡ x → joins_right xs p r ≡ y → Joined (spliced xs p p (r ∷ [])) (joined_at x y xs p r)
  joined_by h true true e f =
      let a = left-facts e in
      let b = right-facts f in
      join (take (p - 1) xs) (get_or xs (p - 1) zero_rmap_rec) r (drop p xs) (put-left xs p (r ∷ drop p xs) a.some h) a.joined
      (join (take (p - 1) xs) (glued (get_or xs (p - 1) zero_rmap_rec) r) (get_or xs p zero_rmap_rec) (drop (p + 1) xs) (ap (λ (ys : List RmapRec). take (p - 1) xs ++ glued (get_or xs (p - 1) zero_rmap_rec) r ∷ ys) (put_right xs p b.some))
      (joins-on (get_or xs (p - 1) zero_rmap_rec) r (get_or xs p zero_rmap_rec) a.joined b.joined)
      (same refl))
  joined_by h true false e f =
      let a = left-facts e in
      join (take (p - 1) xs) (get_or xs (p - 1) zero_rmap_rec) r (drop p xs) (put-left xs p (r ∷ drop p xs) a.some h) a.joined (same refl)
  joined_by h false true e f =
      let b = right-facts f in
      join (take p xs) r (get_or xs p zero_rmap_rec) (drop (p + 1) xs) (ap (λ (ys : List RmapRec). take p xs ++ r ∷ ys) (put_right xs p b.some)) b.joined (same refl)
  joined_by h false false e f = same refl
