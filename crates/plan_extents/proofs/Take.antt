-- What `take` leaves, and which number it gives where.
-- Assumes nothing.
use mathlib.Core.Path.{◌≡◌, refl, sym, ap, ◌∙◌}
use mathlib.Core.Bool.{Bool, true, false, cond}
use mathlib.Core.List.{List, ◌∷◌, ◌++◌, append_assoc, Memᴰ}
use mathlib.Core.Logic.{◌↔◌, ⊎_elim}
use Prim.Native.Nat.{ℕ, ◌+◌, ◌-◌, ◌≤◌, ◌<◌, ◌^◌}
use native.Mathlib.Omega.{arith}
use borrow.Author.Tests.{leb-true, leb-false, ltb-true, ltb-false, le-leb, lt-ltb, le-ltb}
use lib.Dec.{leb, ltb}
use lib.ListN.{length, take, drop, get_or, length-take}
use Rattle.refusals.specs.Numbers.{too_many_records, not_free, not_valid}
use Rattle.seqs.specs.Lists.{spliced}
use Rattle.seqs.specs.Runs.{valid, has}
use Rattle.seqs.proofs.Laws.{never, both_left, both_right, index-passes, lt-or-le, length-put}
use Rattle.seqs.proofs.Parts.{Follows, ended, valid-cons, valid-lower, valid-join, valid-parts}
use Rattle.seqs.proofs.Members.{getD-mem, all-fail, valid-mem, valid-apart}
use Rattle.seqs.proofs.Weights.{additive-has}
use Rattle.btree.specs.declared.records.AllocRec.{AllocRec}
use Rattle.plan_free.specs.declared.FreeList.{FreeList}
use Rattle.plan_free.specs.declared.Taken.{Taken}
use Rattle.plan_free.specs.Free.{zero_free_rec, free_of, alloc_start, alloc_count, alloc_end, holds_run, rest_before, rest_after, without_run, take_refused, taken_at, taken_from, taken}
use Rattle.plan_free.proofs.Laws.{holder, held, left_of, taken-ok, taken-valid}
use Rattle.plan_free.proofs.Uses.{free-packed, piece, taken-weighs}
use Rattle.plan_extents.specs.Takes.{WithinRecord, LeftOver, Splits, NoneHolds, TakeAnswers, long, unsorted, unheld, split, done}

-- ---- what is left is valid
one-valid : (lo a c : ℕ) (ys : List AllocRec) → lo ≤ a → a < c → c < 2 ^ 32 → valid alloc_start alloc_count c ys ≡ true → valid alloc_start alloc_count lo (record { start = a; count = c - a } ∷ ys) ≡ true
one-valid lo a c ys h l m v =
    let e : a + (c - a) ≡ c = omega arith in
    let f : Follows lo a (c - a) = record { low = h; some = omega arith; high = omega arith } in
    valid-cons alloc_start alloc_count lo (record { start = a; count = c - a }) ys f (rw e v)

-- the blocks from a up to c, and what follows c
piece-valid : (lo a c : ℕ) (ys : List AllocRec) → lo ≤ a → a ≤ c → c < 2 ^ 32 → valid alloc_start alloc_count c ys ≡ true → valid alloc_start alloc_count lo (piece a c ++ ys) ≡ true
piece-valid lo a c ys h k m v =
    ⊎_elim
    (λ l. rw (lt-ltb a c l) (one-valid lo a c ys h l m v))
    (λ g. rw (le-ltb a c g) (valid-lower alloc_start alloc_count c lo ys (omega arith) v))
    (lt-or-le a c)

cut-valid : (lo s e : ℕ) (r : AllocRec) (ys : List AllocRec) → lo ≤ r.start → r.start ≤ s → s ≤ e → e ≤ alloc_end r → alloc_end r < 2 ^ 32 → valid alloc_start alloc_count (alloc_end r) ys ≡ true → valid alloc_start alloc_count lo (without_run s e r ++ ys) ≡ true
unfolding without_run
cut-valid lo s e r ys h k l m n v =
    rw (append_assoc (rest_before s r) (rest_after e r) ys) (piece-valid lo r.start s (rest_after e r ++ ys) h k (omega arith) (piece-valid s e (alloc_end r) ys l m n v))

left-valid : (xs : List AllocRec) (i s e : ℕ) → valid alloc_start alloc_count 0 xs ≡ true → i < length xs → (get_or xs i zero_free_rec).start ≤ s → s ≤ e → e ≤ alloc_end (get_or xs i zero_free_rec)
    → valid alloc_start alloc_count 0 (spliced xs i (i + 1) (without_run s e (get_or xs i zero_free_rec))) ≡ true
left-valid xs i s e v h k l m =
    let p = valid-parts alloc_start alloc_count 0 zero_free_rec xs i h v in
    valid-join alloc_start alloc_count 0 (take i xs) (without_run s e (get_or xs i zero_free_rec) ++ drop (i + 1) xs) p.before
    (cut-valid (ended alloc_start alloc_count 0 (take i xs)) s e (get_or xs i zero_free_rec) (drop (i + 1) xs) p.at.low k l m p.at.high p.behind)

-- ---- an accepted `take` takes the run's blocks out, each once, and leaves every other
pub take-leaves : (l : FreeList) (s n : ℕ) → (taken l s n).number ≡ 0 → LeftOver (free_of l) s n (free_of (taken l s n).list)
take-leaves l s n q =
    let o = taken-ok l s n q in
    let e : free_of (taken l s n).list ≡ left_of (free_of l) s (s + n) =
    ap free_of o.same ∙ free-packed (left_of (free_of l) s (s + n)) in
    record {
      few = rw e o.small;
      sorted = ap (valid alloc_start alloc_count 0) e ∙ left-valid (free_of l) (holder (free_of l) s (s + n)) s (s + n) (taken-valid l s n q) o.below o.low (omega arith) o.high;
      covers = λ b. taken-weighs (has b) (additive-has b) l s n q;
    }

-- ---- the numbers
-- in a valid list a run in the midst of a record is held by that one alone
midst-alone : (xs : List AllocRec) (s e : ℕ) → valid alloc_start alloc_count 0 xs ≡ true → s ≤ e → (x r : AllocRec) → Splits xs s e x → Memᴰ r xs → WithinRecord s e r → x ≡ r
midst-alone xs s e v h x r p m q =
    let a = p.before in
    let b = p.behind in
    let c = q.low in
    let d = q.high in
    ⊎_elim (λ f. f) (⊎_elim (λ k. absurd (omega arith)) (λ k. absurd (omega arith))) (valid-apart alloc_start alloc_count 0 xs v x r p.there m)

cut-two : (s e : ℕ) (r : AllocRec) → r.start < s → e < alloc_end r → length (without_run s e r) ≡ 2
unfolding without_run
cut-two s e r h k = rw (lt-ltb r.start s h, lt-ltb e (alloc_end r) k)

-- a run leaves at most two pieces of a record, and two only where it lies in the midst
pub record Pieces (s e : ℕ) (r : AllocRec) : Type 0 where
  pub most : length (without_run s e r) ≤ 2
  pub two : 1 < length (without_run s e r) → (r.start < s) × (e < alloc_end r)

pieces-at : (s e : ℕ) (r : AllocRec) (a b : Bool) → ltb r.start s ≡ a → ltb e (alloc_end r) ≡ b → Pieces s e r
unfolding without_run
pieces-at s e r true true x y =
    let k : length (without_run s e r) ≡ 2 = rw (x, y) in
    record { most = omega arith; two = λ h. (ltb-true _ _ x, ltb-true _ _ y) }
pieces-at s e r true false x y =
    let k : length (without_run s e r) ≡ 1 = rw (x, y) in
    record { most = omega arith; two = λ h. absurd (omega arith) }
pieces-at s e r false true x y =
    let k : length (without_run s e r) ≡ 1 = rw (x, y) in
    record { most = omega arith; two = λ h. absurd (omega arith) }
pieces-at s e r false false x y =
    let k : length (without_run s e r) ≡ 0 = rw (x, y) in
    record { most = omega arith; two = λ h. absurd (omega arith) }

module _ (l : FreeList) (s n : ℕ) (few : l.len ≤ 64) (v : valid alloc_start alloc_count 0 (free_of l) ≡ true) where
  -- the record at index i holds the run
  at-answers : (i : ℕ) → i < length (free_of l) → WithinRecord s (s + n) (get_or (free_of l) i zero_free_rec) → (t : Bool) → leb (length (spliced (free_of l) i (i + 1) (without_run s (s + n) (get_or (free_of l) i zero_free_rec)))) 64 ≡ t
      → TakeAnswers l s n (taken_at (free_of l) i s (s + n))
  unfolding taken_at
  at-answers i h q true e =
      let m = getD-mem (free_of l) i zero_free_rec h in
      let k : length (spliced (free_of l) i (i + 1) (without_run s (s + n) (get_or (free_of l) i zero_free_rec))) ≤ 64 = leb-true _ _ e in
      let g = length-put (free_of l) i (i + 1) (without_run s (s + n) (get_or (free_of l) i zero_free_rec)) (omega arith) in
      done few v (get_or (free_of l) i zero_free_rec) m q
      (λ x p. let f = midst-alone (free_of l) s (s + n) v (omega arith) x (get_or (free_of l) i zero_free_rec) p m q in
      let c : length (without_run s (s + n) (get_or (free_of l) i zero_free_rec)) ≡ 2 = rw (← f) (cut-two s (s + n) x p.before p.behind) in
      let d = p.full in
      omega arith)
      (rw e)
  at-answers i h q false e =
      let m = getD-mem (free_of l) i zero_free_rec h in
      let k : 64 < length (spliced (free_of l) i (i + 1) (without_run s (s + n) (get_or (free_of l) i zero_free_rec))) = leb-false _ _ e in
      let g = length-put (free_of l) i (i + 1) (without_run s (s + n) (get_or (free_of l) i zero_free_rec)) (omega arith) in
      let p = pieces-at s (s + n) (get_or (free_of l) i zero_free_rec) _ _ refl refl in
      let o = p.most in
      let z : length (free_of l) ≤ 64 = simp length-take (omega arith) in
      let u = p.two (omega arith) in
      split few v (get_or (free_of l) i zero_free_rec) (record { full = omega arith; there = m; before = u.0; behind = u.1 }) (rw e)

  holds-facts : (r : AllocRec) → holds_run s (s + n) r ≡ true → WithinRecord s (s + n) r
  holds-facts r e =
      record {
        low = leb-true _ _ (both_left (leb r.start s) (leb (s + n) (alloc_end r)) e);
        high = leb-true _ _ (both_right (leb r.start s) (leb (s + n) (alloc_end r)) e);
      }

  from-answers : (t : Bool) → ltb (holder (free_of l) s (s + n)) (length (free_of l)) ≡ t → TakeAnswers l s n (taken_from (free_of l) s (s + n))
  unfolding taken_from
  from-answers true e =
      let h : holder (free_of l) s (s + n) < length (free_of l) = ltb-true _ _ e in
      let q = holds-facts (held (free_of l) s (s + n)) (index-passes (holds_run s (s + n)) (free_of l) zero_free_rec h) in
      rw e (at-answers (holder (free_of l) s (s + n)) h q _ refl)
  from-answers false e =
      unheld few v
      (λ r m h. let f = all-fail (holds_run s (s + n)) (free_of l) (ltb-false _ _ e) r m in
      never (sym f ∙ rw (le-leb r.start s h.low, le-leb (s + n) (alloc_end r) h.high)))
      (rw e)

  sum-answers : (t : Bool) → ltb (s + n) (2 ^ 64) ≡ t → TakeAnswers l s n (cond t (taken_from (free_of l) s (s + n)) (take_refused not_free))
  sum-answers true e = from-answers _ refl
  sum-answers false e =
      unheld few v
      (λ r m h. let a : 2 ^ 64 ≤ s + n = ltb-false _ _ e in
      let b = (valid-mem alloc_start alloc_count 0 (free_of l) v r m).high in
      let c = h.high in
      omega arith)
      refl

valid-answers : (l : FreeList) (s n : ℕ) → l.len ≤ 64 → (t : Bool) → valid alloc_start alloc_count 0 (free_of l) ≡ t
    → TakeAnswers l s n (cond t (cond (ltb (s + n) (2 ^ 64)) (taken_from (free_of l) s (s + n)) (take_refused not_free)) (take_refused not_valid))
valid-answers l s n few true e = sum-answers l s n few e _ refl
valid-answers l s n few false e = unsorted few e refl

len-answers : (l : FreeList) (s n : ℕ) (t : Bool) → ltb 64 l.len ≡ t → TakeAnswers l s n (taken l s n)
unfolding taken
len-answers l s n true e = long (ltb-true _ _ e) (rw e)
len-answers l s n false e = rw e (valid-answers l s n (ltb-false _ _ e) _ refl)

-- what `take` answers, for every list and run
pub take-answers : (l : FreeList) (s n : ℕ) → TakeAnswers l s n (taken l s n)
take-answers l s n = len-answers l s n _ refl

-- ---- of a list of at most 64, each number exactly where it belongs
module _ (l : FreeList) (s n : ℕ) (few : l.len ≤ 64) where
  number-32 : (t : Taken) → TakeAnswers l s n t → (t.number ≡ not_valid) ↔ (valid alloc_start alloc_count 0 (free_of l) ≡ false)
  number-32 t (long a e) = absurd (omega arith)
  number-32 t (unsorted a v e) = (λ x. v, λ x. rw e)
  number-32 t (unheld a v w e) = (λ x. let y : not_valid ≡ not_free = sym x ∙ ap (λ (u : Taken). u.number) e in absurd (omega arith), λ x. never (sym x ∙ v))
  number-32 t (split a v r w e) = (λ x. let y : not_valid ≡ too_many_records = sym x ∙ ap (λ (u : Taken). u.number) e in absurd (omega arith), λ x. never (sym x ∙ v))
  number-32 t (done a v r m h w e) = (λ x. let y : not_valid ≡ 0 = sym x ∙ e in absurd (omega arith), λ x. never (sym x ∙ v))

  -- 32 exactly where the list isn't valid
  pub take-32 : ((taken l s n).number ≡ not_valid) ↔ (valid alloc_start alloc_count 0 (free_of l) ≡ false)
  take-32 = number-32 (taken l s n) (take-answers l s n)

  number-33 : (t : Taken) → valid alloc_start alloc_count 0 (free_of l) ≡ true → TakeAnswers l s n t → (t.number ≡ not_free) ↔ NoneHolds (free_of l) s (s + n)
  number-33 t v (long a e) = absurd (omega arith)
  number-33 t v (unsorted a w e) = never (sym w ∙ v)
  number-33 t v (unheld a w h e) = (λ x. h, λ x. rw e)
  number-33 t v (split a w r p e) =
      (λ x. let y : not_free ≡ too_many_records = sym x ∙ ap (λ (u : Taken). u.number) e in absurd (omega arith), λ x. let b = p.before in let c = p.behind in absurd (x r p.there (record { low = omega arith; high = omega arith })))
  number-33 t v (done a w r m h p e) = (λ x. let y : not_free ≡ 0 = sym x ∙ e in absurd (omega arith), λ x. absurd (x r m h))

  -- 33 exactly where no record of a valid list holds the run; so wherever start plus length is above 2^64 − 1
  pub take-33 : valid alloc_start alloc_count 0 (free_of l) ≡ true → ((taken l s n).number ≡ not_free) ↔ NoneHolds (free_of l) s (s + n)
  take-33 v = number-33 (taken l s n) v (take-answers l s n)

  number-34 : (t : Taken) → valid alloc_start alloc_count 0 (free_of l) ≡ true → TakeAnswers l s n t → (t.number ≡ too_many_records) ↔ ((r : AllocRec) × Splits (free_of l) s (s + n) r)
  number-34 t v (long a e) = absurd (omega arith)
  number-34 t v (unsorted a w e) = never (sym w ∙ v)
  number-34 t v (unheld a w h e) =
      (λ x. let y : too_many_records ≡ not_free = sym x ∙ ap (λ (u : Taken). u.number) e in absurd (omega arith), λ x. let p = x.1 in let b = p.before in let c = p.behind in absurd (h x.0 p.there (record { low = omega arith; high = omega arith })))
  number-34 t v (split a w r p e) = (λ x. (r, p), λ x. rw e)
  number-34 t v (done a w r m h p e) = (λ x. let y : too_many_records ≡ 0 = sym x ∙ e in absurd (omega arith), λ x. absurd (p x.0 x.1))

  -- 34 exactly where a full list would have one record more: the run lies in the midst of a record
  pub take-34 : valid alloc_start alloc_count 0 (free_of l) ≡ true → ((taken l s n).number ≡ too_many_records) ↔ ((r : AllocRec) × Splits (free_of l) s (s + n) r)
  take-34 v = number-34 (taken l s n) v (take-answers l s n)
