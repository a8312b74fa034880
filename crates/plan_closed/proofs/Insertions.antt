-- A reverse mapping put behind all others: it is the last, or joined with the last.
-- Assumes nothing.
use mathlib.Core.Path.{◌≡◌, refl, ap, ◌∙◌}
use mathlib.Core.Bool.{Bool, true, false, cond, ◌&&◌}
use mathlib.Core.List.{List, [], ◌∷◌, ◌++◌}
use Prim.Native.Nat.{ℕ, suc, ◌+◌, ◌-◌, ◌≤◌, ◌<◌, ◌^◌}
use native.Mathlib.Omega.{arith}
use borrow.Author.Tests.{ltb-true, leb-true, lt-ltb, le-leb, lt-leb, le-ltb}
use lib.Dec.{leb, ltb}
use lib.ListN.{length, replicate, length-append}
use lib.Seq.{take-append_seam, take-length, drop-length, get_or-append_seam}
use Rattle.seqs.specs.Lists.{first_index, spliced}
use Rattle.seqs.specs.Runs.{follows, valid}
use Rattle.seqs.proofs.Laws.{both_left, both_right}
use Rattle.btree.specs.declared.records.RmapRec.{RmapRec}
use Rattle.plan_rmap.specs.Rmap.{zero_rmap_rec, rmap_of, pack_rmap, rmap_start, rmap_count, rmap_end, insert_place, joins, glued, joins_left, joins_right, inserted_list, joined_at, inserted_at, takes, inserted}

abbrev pub valid_rmap : ℕ → List RmapRec → Bool
valid_rmap lo xs = valid rmap_start rmap_count lo xs

-- ---- valid lists

pub valid-nil : (lo : ℕ) → valid_rmap lo [] ≡ true
unfolding valid
valid-nil lo = refl

pub valid-cons : (lo : ℕ) (x : RmapRec) (xs : List RmapRec) → lo ≤ x.start → 0 < x.count → rmap_end x < 2 ^ 32 → valid_rmap (rmap_end x) xs ≡ true → valid_rmap lo (x ∷ xs) ≡ true
unfolding valid
valid-cons lo x xs h k w v = rw (le-leb lo x.start h, lt-ltb 0 x.count k, lt-ltb (rmap_end x) (2 ^ 32) w) v

-- what the first of a valid list says
pub record First (lo : ℕ) (x : RmapRec) (xs : List RmapRec) : Type 0 where
  pub after : lo ≤ x.start
  pub some : 0 < x.count
  pub rest : valid_rmap (rmap_end x) xs ≡ true

pub first_of : (lo : ℕ) (x : RmapRec) (xs : List RmapRec) → valid_rmap lo (x ∷ xs) ≡ true → First lo x xs
unfolding valid
first_of lo x xs v =
    let f = both_left (follows lo x.start x.count) (valid_rmap (rmap_end x) xs) v in
    let g = both_right (leb lo x.start) (ltb 0 x.count && ltb (rmap_end x) (2 ^ 32)) f in
    record {
      after = leb-true _ _ (both_left (leb lo x.start) (ltb 0 x.count && ltb (rmap_end x) (2 ^ 32)) f);
      some = ltb-true _ _ (both_left (ltb 0 x.count) (ltb (rmap_end x) (2 ^ 32)) g);
      rest = both_right (follows lo x.start x.count) _ v;
    }

-- ---- a record r behind the last, x

module _ (x r : RmapRec) (behind : rmap_end x ≤ r.start) (some : 0 < r.count) (wide : rmap_end r < 2 ^ 32) where
  one-valid : valid_rmap (rmap_end x) (r ∷ []) ≡ true
  one-valid = valid-cons (rmap_end x) r [] behind some wide (valid-nil (rmap_end r))

  -- the list stays valid with it
  pub last-valid : (lo : ℕ) (ys : List RmapRec) → valid_rmap lo (ys ++ x ∷ []) ≡ true → valid_rmap lo ((ys ++ x ∷ []) ++ r ∷ []) ≡ true
  unfolding valid
  last-valid lo [] v = rw (both_left (follows lo x.start x.count) true v) one-valid
  last-valid lo (y ∷ ys) v =
      rw (both_left (follows lo y.start y.count) (valid_rmap (rmap_end y) (ys ++ x ∷ [])) v)
      (last-valid (rmap_end y) ys (both_right (follows lo y.start y.count) _ v))

  -- a valid list ends after it begins
  ends : (lo : ℕ) (ys : List RmapRec) → valid_rmap lo (ys ++ x ∷ []) ≡ true → lo < rmap_end x
  ends lo [] v = let f = first_of lo x [] v in omega arith
  ends lo (y ∷ ys) v = let f = first_of lo y (ys ++ x ∷ []) v in let e = ends (rmap_end y) ys f.rest in omega arith

  -- its place is behind all others
  place-last : (lo : ℕ) (ys : List RmapRec) → valid_rmap lo (ys ++ x ∷ []) ≡ true → insert_place r.start (ys ++ x ∷ []) ≡ length (ys ++ x ∷ [])
  unfolding first_index
  place-last lo [] v = let f = first_of lo x [] v in rw (lt-leb r.start x.start (omega arith))
  place-last lo (y ∷ ys) v =
      let f = first_of lo y (ys ++ x ∷ []) v in
      let e = ends (rmap_end y) ys f.rest in
      rw (lt-leb r.start y.start (omega arith)) (ap suc (place-last (rmap_end y) ys f.rest))

  module _ (ys : List RmapRec) (v : valid_rmap 0 (ys ++ x ∷ []) ≡ true) (small : length ys ≤ 62) where
    abbrev xs : List RmapRec
    xs = ys ++ x ∷ []

    size : length xs ≡ length ys + 1
    size = simp length-append

    before_last : length xs - 1 ≡ length ys
    before_last = let e = size in omega arith

    spliced-last : spliced xs (length xs) (length xs) (r ∷ []) ≡ xs ++ r ∷ []
    spliced-last = rw (take-length xs, drop-length xs)

    takes-last : takes xs (length xs) r ≡ true
    unfolding takes
    takes-last = rw (v, spliced-last) (last-valid 0 ys v)

    left-last : joins_left xs (length xs) r ≡ joins x r
    unfolding joins_left
    left-last = let e = size in rw (lt-ltb 0 (length xs) (omega arith), before_last, get_or-append_seam ys x [] zero_rmap_rec)

    right-last : joins_right xs (length xs) r ≡ false
    unfolding joins_right
    right-last = rw (le-ltb (length xs) (length xs) (omega arith))

    -- with the last, where they join, or behind it
    abbrev last_put : Bool → List RmapRec
    last_put t = cond t (ys ++ glued x r ∷ []) (xs ++ r ∷ [])

    at_last : (t : Bool) → inserted_list (joined_at t false xs (length xs) r) ≡ record { number = 0; list = pack_rmap (last_put t) }
    at_last true =
        let n : length (ys ++ glued x r ∷ []) ≡ length ys + 1 = simp length-append in
        rw (before_last, get_or-append_seam ys x [] zero_rmap_rec, take-append_seam ys (x ∷ []), drop-length xs, le-leb (length (ys ++ glued x r ∷ [])) 64 (omega arith))
    at_last false =
        let n : length (xs ++ r ∷ []) ≡ length xs + 1 = simp length-append in
        let m = size in
        rw (take-length xs, drop-length xs, le-leb (length (xs ++ r ∷ [])) 64 (omega arith))

    inserted-last : inserted (pack_rmap xs) r ≡ record { number = 0; list = pack_rmap (last_put (joins x r)) }
    unfolding inserted inserted_at
    inserted-last =
        let m = size in
        let e : rmap_of (pack_rmap xs) ≡ xs = take-append_seam xs (replicate (64 - length xs) zero_rmap_rec) in
        rw (le-ltb 64 (length xs) (omega arith), e, place-last 0 ys v, takes-last, left-last, right-last) (at_last (joins x r))

    pub inserted-joined : joins x r ≡ true → inserted (pack_rmap xs) r ≡ record { number = 0; list = pack_rmap (ys ++ glued x r ∷ []) }
    inserted-joined j = inserted-last ∙ rw j

    pub inserted-apart : joins x r ≡ false → inserted (pack_rmap xs) r ≡ record { number = 0; list = pack_rmap (xs ++ r ∷ []) }
    inserted-apart j = inserted-last ∙ rw j
