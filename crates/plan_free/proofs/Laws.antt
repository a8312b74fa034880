-- Laws of `take`.
-- Assumes nothing.
use mathlib.Core.Path.{◌≡◌, refl}
use mathlib.Core.Bool.{Bool, true, false, cond}
use mathlib.Core.List.{List, []}
use Prim.Native.Nat.{ℕ, ◌+◌, ◌-◌, ◌≤◌, ◌<◌, ◌^◌}
use native.Mathlib.Omega.{arith}
use borrow.Author.Tests.{leb-true, ltb-true, le-leb, lt-leb}
use lib.Dec.{leb, ltb}
use lib.ListN.{length, take, get_or}
use lib.Seq.{slice, length-take-le, get_or-take}
use Rattle.refusals.specs.Numbers.{too_many_records, not_free, not_valid}
use Rattle.seqs.specs.Lists.{first_index, spliced, packed, appended}
use Rattle.seqs.specs.Runs.{valid}
use Rattle.seqs.proofs.Validity.{valid-at}
use Rattle.seqs.proofs.Laws.{both_left, both_right, index-passes, appended-append, length-spliced, splice-packed}
use Rattle.btree.specs.declared.records.AllocRec.{AllocRec}
use Rattle.plan_free.specs.declared.FreeList.{FreeList}
use Rattle.plan_free.specs.declared.Taken.{Taken}
use Rattle.plan_free.specs.Free.{pack_free, zero_free_rec, free_of, alloc_start, alloc_count, to_free, alloc_end, holds_run, rest_before, rest_after, without_run, take_refused, taken_at, taken_from, taken}

-- ---- the record that the search finds in a struct's list
module _ (xs : List AllocRec) (n i : ℕ) (k : n ≤ length xs) (h : i < n) where
  pub live-holds : (s e : ℕ) → i ≡ first_index (holds_run s e) (take n xs) → e ≤ alloc_end (get_or xs i zero_free_rec)
  live-holds s e q =
      let l : length (take n xs) ≡ n = length-take-le n xs k in
      let p : holds_run s e (get_or (take n xs) i zero_free_rec) ≡ true = rw q (index-passes (holds_run s e) (take n xs) zero_free_rec (omega arith)) in
      leb-true _ _ (both_right (leb (get_or xs i zero_free_rec).start s) _ (rw (get_or-take n xs i zero_free_rec h) at p))

module _ (xs : List AllocRec) (n i s e : ℕ) (k : n ≤ length xs) (h : i < n) where
  pub taken-at-full : 64 < n - 1 + length (without_run s e (get_or xs i zero_free_rec)) → taken_at (take n xs) i s e ≡ take_refused too_many_records
  unfolding taken_at
  taken-at-full m =
      let l = length-spliced zero_free_rec xs n i (i + 1) (without_run s e (get_or xs i zero_free_rec)) k (omega arith) in
      let t : 64 < length (spliced (take n xs) i (i + 1) (without_run s e (get_or xs i zero_free_rec))) = omega arith in
      rw (get_or-take n xs i zero_free_rec h, lt-leb _ _ t)

  pub taken-at-fits : n - 1 + length (without_run s e (get_or xs i zero_free_rec)) ≤ 64
      → taken_at (take n xs) i s e
      ≡ record { number = 0; list = to_free (appended (appended (appended (appended (packed zero_free_rec []) (slice 0 i xs)) (rest_before s (get_or xs i zero_free_rec))) (rest_after e (get_or xs i zero_free_rec))) (slice (i + 1) n xs)) }
  unfolding taken_at without_run
  taken-at-fits m =
      let l = length-spliced zero_free_rec xs n i (i + 1) (without_run s e (get_or xs i zero_free_rec)) k (omega arith) in
      let t : length (spliced (take n xs) i (i + 1) (without_run s e (get_or xs i zero_free_rec))) ≤ 64 = omega arith in
      let p = splice-packed zero_free_rec xs n i (i + 1) (without_run s e (get_or xs i zero_free_rec)) k (omega arith) t in
      rw (get_or-take n xs i zero_free_rec h, le-leb _ _ t, appended-append zero_free_rec (appended (packed zero_free_rec []) (slice 0 i xs)) (rest_before s (get_or xs i zero_free_rec)) (rest_after e (get_or xs i zero_free_rec)), p)

-- ---- the index of the record that holds the run, the record, and what is left of the list
abbrev pub holder : List AllocRec → ℕ → ℕ → ℕ
holder xs s e = first_index (holds_run s e) xs

abbrev pub held : List AllocRec → ℕ → ℕ → AllocRec
held xs s e = get_or xs (holder xs s e) zero_free_rec

abbrev pub left_of : List AllocRec → ℕ → ℕ → List AllocRec
left_of xs s e = spliced xs (holder xs s e) (holder xs s e + 1) (without_run s e (held xs s e))

-- ---- where the number is 0, every test was passed
number-first : (b : Bool) (x y : Taken) → (x.number ≡ 0 → ⊥) → (cond b x y).number ≡ 0 → (b ≡ false) × (y.number ≡ 0)
number-first true x y h e = absurd (h e)
number-first false x y h e = (refl, e)

number-then : (b : Bool) (x y : Taken) → (y.number ≡ 0 → ⊥) → (cond b x y).number ≡ 0 → (b ≡ true) × (x.number ≡ 0)
number-then true x y h e = (refl, e)
number-then false x y h e = absurd (h e)

-- what an accepted `take` found and answers: a record that holds the run, and the records left
pub record TakenOk (xs : List AllocRec) (s e : ℕ) (t : Taken) : Type 0 where
  pub sorted : valid alloc_start alloc_count 0 xs ≡ true
  pub below : holder xs s e < length xs
  pub low : (held xs s e).start ≤ s
  pub high : e ≤ alloc_end (held xs s e)
  pub small : length (left_of xs s e) ≤ 64
  pub same : t.list ≡ pack_free (left_of xs s e)

from-ok : (xs : List AllocRec) (s e : ℕ) → valid alloc_start alloc_count 0 xs ≡ true → (taken_from xs s e).number ≡ 0 → TakenOk xs s e (taken_from xs s e)
unfolding taken_from taken_at
from-ok xs s e v q =
    let t = number-then (ltb (holder xs s e) (length xs)) (taken_at xs (holder xs s e) s e) (take_refused not_free) (λ n. omega arith) q in
    let k = number-then (leb (length (left_of xs s e)) 64) (record { number = 0; list = pack_free (left_of xs s e) }) (take_refused too_many_records) (λ n. omega arith) t.1 in
    let h : holder xs s e < length xs = ltb-true _ _ t.0 in
    let p = index-passes (holds_run s e) xs zero_free_rec h in
    record {
      sorted = v;
      below = h;
      low = leb-true _ _ (both_left (leb (held xs s e).start s) (leb e (alloc_end (held xs s e))) p);
      high = leb-true _ _ (both_right (leb (held xs s e).start s) (leb e (alloc_end (held xs s e))) p);
      small = leb-true _ _ k.0;
      same = rw (t.0, k.0);
    }

pub taken-ok : (l : FreeList) (s n : ℕ) → (taken l s n).number ≡ 0 → TakenOk (free_of l) s (s + n) (taken l s n)
unfolding taken
taken-ok l s n q =
    let a = number-first (ltb 64 l.len) (take_refused too_many_records) (cond (valid alloc_start alloc_count 0 (free_of l)) (cond (ltb (s + n) (2 ^ 64)) (taken_from (free_of l) s (s + n)) (take_refused not_free)) (take_refused not_valid)) (λ n. omega arith) q in
    let b = number-then (valid alloc_start alloc_count 0 (free_of l)) (cond (ltb (s + n) (2 ^ 64)) (taken_from (free_of l) s (s + n)) (take_refused not_free)) (take_refused not_valid) (λ n. omega arith) a.1 in
    let c = number-then (ltb (s + n) (2 ^ 64)) (taken_from (free_of l) s (s + n)) (take_refused not_free) (λ n. omega arith) b.1 in
    rw (a.0, b.0, c.0) (from-ok (free_of l) s (s + n) b.0 c.1)

pub taken-valid : (l : FreeList) (s n : ℕ) → (taken l s n).number ≡ 0 → valid alloc_start alloc_count 0 (free_of l) ≡ true
taken-valid l s n q = (taken-ok l s n q).sorted

-- a run that was taken ends below 2^32
pub taken-ends : (l : FreeList) (s n : ℕ) → (taken l s n).number ≡ 0 → s + n < 2 ^ 32
taken-ends l s n q =
    let o = taken-ok l s n q in
    let h = o.high in
    let b = valid-at alloc_start alloc_count zero_free_rec 0 (free_of l) (holder (free_of l) s (s + n)) o.sorted o.below in
    omega arith
