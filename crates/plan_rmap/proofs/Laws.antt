-- Laws of `rmap_insert`.
-- Assumes nothing.
use mathlib.Core.Path.{◌≡◌, sym, ◌∙◌}
use mathlib.Core.Bool.{true, false, ◌&&◌}
use mathlib.Core.List.{List, [], ◌∷◌}
use Prim.Native.Nat.{ℕ, ◌+◌, ◌-◌, ◌≤◌, ◌<◌, ◌^◌}
use native.Mathlib.Omega.{arith}
use borrow.Author.Tests.{ltb-true, eqb-true, le-leb, lt-leb}
use lib.Dec.{ltb, eqb}
use lib.ListN.{length, take, drop, get_or}
use lib.Seq.{slice, length-take-le, get_or-take}
use Rattle.refusals.specs.Numbers.{too_many_records}
use Rattle.seqs.specs.Lists.{spliced, packed, pushed, appended}
use Rattle.seqs.specs.Runs.{follows, valid, end_at, next_ok}
use Rattle.seqs.proofs.Laws.{both_left, both_right, length-spliced, splice-packed}
use Rattle.seqs.proofs.Validity.{follows-end, valid-insert}
use Rattle.btree.specs.declared.records.RmapRec.{RmapRec}
use Rattle.plan_rmap.specs.Rmap.{zero_rmap_rec, to_rmap, rmap_start, rmap_count, rmap_end, joins, joins_left, joins_right, insert_refused, inserted_list, takes}

pub takes-no : (xs : List RmapRec) (p : ℕ) (r : RmapRec) → valid rmap_start rmap_count 0 xs ≡ false → takes xs p r ≡ false
unfolding takes
takes-no xs p r v = rw v

pub takes-if : (xs : List RmapRec) (p : ℕ) (r : RmapRec) → p ≤ length xs → valid rmap_start rmap_count 0 xs ≡ true
    → takes xs p r ≡ (follows (end_at rmap_start rmap_count zero_rmap_rec 0 xs p) r.start r.count && next_ok rmap_start rmap_count (rmap_end r) (drop p xs))
unfolding takes
takes-if xs p r h v = rw v (valid-insert rmap_start rmap_count zero_rmap_rec 0 xs p r h v)

takes-valid : (xs : List RmapRec) (p : ℕ) (r : RmapRec) → takes xs p r ≡ true → valid rmap_start rmap_count 0 xs ≡ true
unfolding takes
takes-valid xs p r t = both_left (valid rmap_start rmap_count 0 xs) (valid rmap_start rmap_count 0 (spliced xs p p (r ∷ []))) t

pub takes-facts : (xs : List RmapRec) (p : ℕ) (r : RmapRec) → p ≤ length xs → takes xs p r ≡ true → (valid rmap_start rmap_count 0 xs ≡ true) × (rmap_end r < 2 ^ 32)
takes-facts xs p r h t =
    let v : valid rmap_start rmap_count 0 xs ≡ true = takes-valid xs p r t in
    let f = both_left (follows (end_at rmap_start rmap_count zero_rmap_rec 0 xs p) r.start r.count) _ (sym (takes-if xs p r h v) ∙ t) in
    (v, ltb-true _ _ (follows-end (end_at rmap_start rmap_count zero_rmap_rec 0 xs p) r.start r.count f))

module _ (xs : List RmapRec) (n i j : ℕ) (x : RmapRec) (k : n ≤ length xs) (h : i ≤ n) where
  pub kept_full : 64 < i + 1 + (n - j) → inserted_list (spliced (take n xs) i j (x ∷ [])) ≡ insert_refused too_many_records
  kept_full m =
      let l = length-spliced zero_rmap_rec xs n i j (x ∷ []) k h in
      let t : 64 < length (spliced (take n xs) i j (x ∷ [])) = omega arith in
      rw (lt-leb _ _ t)

  pub kept-fits : i + 1 + (n - j) ≤ 64 → inserted_list (spliced (take n xs) i j (x ∷ []))
      ≡ record { number = 0; list = to_rmap (appended (pushed (appended (packed zero_rmap_rec []) (slice 0 i xs)) x) (slice j n xs)) }
  unfolding appended
  kept-fits m =
      let l = length-spliced zero_rmap_rec xs n i j (x ∷ []) k h in
      let t : length (spliced (take n xs) i j (x ∷ [])) ≤ 64 = omega arith in
      let p = splice-packed zero_rmap_rec xs n i j (x ∷ []) k h t in
      rw (le-leb _ _ t, p)

module _ (xs : List RmapRec) (n p : ℕ) (r : RmapRec) (k : n ≤ length xs) (h : p ≤ n) where
  pub left-facts : joins_left (take n xs) p r ≡ true → (0 < p) × (rmap_end (get_or xs (p - 1) zero_rmap_rec) ≡ r.start)
  unfolding joins_left
  left-facts e =
      let a : 0 < p = ltb-true _ _ (both_left (ltb 0 p) (joins (get_or (take n xs) (p - 1) zero_rmap_rec) r) e) in
      let j : joins (get_or xs (p - 1) zero_rmap_rec) r ≡ true = rw (← get_or-take n xs (p - 1) zero_rmap_rec (omega arith)) (both_right (ltb 0 p) _ e) in
      (a, eqb-true _ _ (both_right (eqb (get_or xs (p - 1) zero_rmap_rec).owner r.owner) _ j))

  pub right-facts : joins_right (take n xs) p r ≡ true → (p < n) × (rmap_end r ≡ (get_or xs p zero_rmap_rec).start)
  unfolding joins_right
  right-facts e =
      let l : length (take n xs) ≡ n = length-take-le n xs k in
      let a : p < length (take n xs) = ltb-true _ _ (both_left (ltb p (length (take n xs))) (joins r (get_or (take n xs) p zero_rmap_rec)) e) in
      let j : joins r (get_or xs p zero_rmap_rec) ≡ true = rw (← get_or-take n xs p zero_rmap_rec (omega arith)) (both_right (ltb p (length (take n xs))) _ e) in
      (omega arith, eqb-true _ _ (both_right (eqb r.owner (get_or xs p zero_rmap_rec).owner) _ j))
