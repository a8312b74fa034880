-- `take` takes exactly the run out of the free extents, and what is picked has blocks.
-- Assumes nothing.
use mathlib.Core.Path.{◌≡◌, sym}
use mathlib.Core.Bool.{true, cond, ◌&&◌}
use mathlib.Core.Logic.{⊎_elim}
use mathlib.Core.List.{List, [], ◌∷◌}
use Prim.Native.Nat.{ℕ, ◌+◌, ◌-◌, ◌≤◌, ◌<◌, ◌^◌}
use native.Mathlib.Nat.{add-zero}
use native.Mathlib.Omega.{arith}
use borrow.Author.Tests.{ltb-true, lt-ltb, le-ltb}
use lib.Dec.{leb, ltb}
use lib.ListN.{length, replicate}
use lib.Seq.{take-append_seam}
use Rattle.seqs.specs.Lists.{fold}
use Rattle.seqs.specs.Runs.{follows, valid, weigh}
use Rattle.seqs.proofs.Laws.{never, both_left, both_right, lt-or-le, choose-elim}
use Rattle.seqs.proofs.Weights.{Additive, weigh-append, weigh-spliced}
use Rattle.btree.specs.declared.records.AllocRec.{AllocRec}
use Rattle.plan_free.specs.declared.FreeList.{FreeList}
use Rattle.plan_free.specs.declared.Choice.{Choice}
use Rattle.refusals.specs.Numbers.{too_many_records}
use Rattle.plan_free.specs.Free.{zero_free_rec, free_of, pack_free, alloc_start, alloc_count, alloc_end, rest_before, rest_after, without_run, taken, unpicked, no_choice, choice_of, smaller, larger_record, fitter, bigger, picked_from, pick_answer}
use Rattle.plan_free.proofs.Laws.{holder, held, left_of, taken-ok}

abbrev pub weigh_free : (ℕ → ℕ → ℕ) → List AllocRec → ℕ
weigh_free f xs = weigh alloc_start alloc_count f xs

-- ---- the records of a packed list
pub free-packed : (xs : List AllocRec) → free_of (pack_free xs) ≡ xs
free-packed xs = take-append_seam xs (replicate (64 - length xs) zero_free_rec)

-- ---- the records between a and c
abbrev pub piece : ℕ → ℕ → List AllocRec
piece a c = cond (ltb a c) (record { start = a; count = c - a } ∷ []) []

module _ (f : ℕ → ℕ → ℕ) (add : Additive f) where
  pub piece-weighs : (a c : ℕ) → weigh_free f (piece a c) ≡ f a c
  unfolding weigh
  piece-weighs a c =
      ⊎_elim
      (λ l. let e : a + (c - a) ≡ c = omega arith in rw (lt-ltb a c l, e, add-zero))
      (λ g. rw (le-ltb a c g) (sym (add.none a c g)))
      (lt-or-le a c)

  pub cut-weighs : (s e : ℕ) (r : AllocRec) → r.start ≤ s → s ≤ e → e ≤ alloc_end r → weigh_free f (without_run s e r) + f s e ≡ f r.start (alloc_end r)
  unfolding without_run
  cut-weighs s e r h k l =
      let u = weigh-append alloc_start alloc_count f (rest_before s r) (rest_after e r) in
      let p = piece-weighs r.start s in
      let q = piece-weighs e (alloc_end r) in
      let x = add.split r.start s (alloc_end r) h (omega arith) in
      let y = add.split s e (alloc_end r) k l in
      omega arith

-- ---- what is free before weighs as much as what is free after and the run
pub taken-weighs : (f : ℕ → ℕ → ℕ) → Additive f → (l : FreeList) (s n : ℕ) → (taken l s n).number ≡ 0
    → weigh_free f (free_of l) ≡ weigh_free f (free_of (taken l s n).list) + f s (s + n)
taken-weighs f add l s n q =
    let o = taken-ok l s n q in
    let u = weigh-spliced alloc_start alloc_count f zero_free_rec (free_of l) (holder (free_of l) s (s + n)) (without_run s (s + n) (held (free_of l) s (s + n))) o.below in
    let c = cut-weighs f add s (s + n) (held (free_of l) s (s + n)) o.low (omega arith) o.high in
    rw (o.same, free-packed (left_of (free_of l) s (s + n))) (omega arith)

-- ---- a record that is picked from a valid list has blocks
abbrev Some : Choice → Type 0
Some c = c.found ≡ true → 0 < c.rec.count

follows-count : (lo s c : ℕ) → follows lo s c ≡ true → 0 < c
follows-count lo s c e = ltb-true _ _ (both_left (ltb 0 c) (ltb (s + c) (2 ^ 32)) (both_right (leb lo s) (ltb 0 c && ltb (s + c) (2 ^ 32)) e))

fold-some : (f : Choice → AllocRec → Choice) → ((c : Choice) (r : AllocRec) → 0 < r.count → Some c → Some (f c r))
    → (lo : ℕ) (xs : List AllocRec) (c : Choice) → valid alloc_start alloc_count lo xs ≡ true → Some c → Some (fold f c xs)
unfolding fold valid
fold-some f step lo [] c v g = g
fold-some f step lo (x ∷ xs) c v g =
    fold-some f step (alloc_end x) xs (f c x) (both_right (follows lo x.start x.count) (valid alloc_start alloc_count (alloc_end x) xs) v)
    (step c x (follows-count lo x.start x.count (both_left (follows lo x.start x.count) (valid alloc_start alloc_count (alloc_end x) xs) v)) g)

fitter-some : (want : ℕ) (c : Choice) (r : AllocRec) → 0 < r.count → Some c → Some (fitter want c r)
unfolding fitter
fitter-some want c r h g = choose-elim Some (leb want r.count && cond c.found (smaller r c.rec) true) (choice_of r) c (λ t e. h) (λ t. g)

bigger-some : (c : Choice) (r : AllocRec) → 0 < r.count → Some c → Some (bigger c r)
unfolding bigger
bigger-some c r h g = choose-elim Some (cond c.found (larger_record r c.rec) true) (choice_of r) c (λ t e. h) (λ t. g)

pub picked-some : (l : FreeList) (want : ℕ) → valid alloc_start alloc_count 0 (free_of l) ≡ true → (pick_answer l want).found ≡ true → 0 < (pick_answer l want).rec.count
unfolding pick_answer picked_from
picked-some l want v =
    choose-elim Some (ltb 64 l.len) (unpicked too_many_records) _ (λ t e. never e)
    (λ t. choose-elim Some (fold (fitter want) no_choice (free_of l)).found _ _
    (λ u. fold-some (fitter want) (fitter-some want) 0 (free_of l) no_choice v (λ e. never e))
    (λ u. fold-some bigger bigger-some 0 (free_of l) no_choice v (λ e. never e)))
