-- What `rmap_insert` leaves, and which number it gives where.
-- Assumes nothing.
use mathlib.Core.Path.{◌≡◌, refl, sym, ap, ◌∙◌}
use mathlib.Core.Bool.{Bool, true, false, cond}
use mathlib.Core.List.{List, [], ◌∷◌, ◌++◌, append-nil, Memᴰ}
use mathlib.Core.Logic.{◌↔◌, ◌⊎◌, inl, inr, ⊎_elim}
use Prim.Native.Nat.{ℕ, suc, ◌+◌, ◌-◌, ◌≤◌, ◌<◌}
use native.Mathlib.Omega.{arith}
use borrow.Author.Tests.{leb-true, leb-false, ltb-true, ltb-false}
use lib.Dec.{leb, ltb}
use lib.ListN.{length, take, drop, get_or, length-take, length-drop, take-append-drop}
use Rattle.refusals.specs.Numbers.{too_many_records, not_valid}
use Rattle.seqs.specs.Lists.{first_index, spliced}
use Rattle.seqs.specs.Runs.{valid}
use Rattle.seqs.proofs.Laws.{total-put, never, both_left, both_right, index-le, length-put}
use Rattle.seqs.proofs.Parts.{Follows, ended, valid-uncons, valid-cons, valid-join, valid-unjoin}
use Rattle.seqs.proofs.Members.{getD-mem, before-fail, valid-mem, valid-before, ended-le, valid-from}
use Rattle.btree.specs.declared.records.RmapRec.{RmapRec}
use Rattle.plan_rmap.specs.declared.RmapList.{RmapList}
use Rattle.plan_rmap.specs.declared.Inserted.{Inserted}
use Rattle.plan_rmap.specs.Rmap.{zero_rmap_rec, rmap_of, rmap_start, rmap_count, rmap_end, not_before, insert_place, joins, glued, joins_left, joins_right, insert_refused, joined_at, inserted_at, takes, inserted}
use Rattle.plan_extents.specs.Inserts.{holds_block, owns_block, Gains, Accepts, NoneJoins, InsertAnswers, long, unfit, full, done}
use Rattle.plan_extents.proofs.Join.{nil-of, rmap-packed, joins-facts, put-left, put_right, with_rec, left-facts, right-facts, joined-valid, joined-total, holds-adds, owns-adds, joined_by}
use Rattle.plan_extents.proofs.Unjoined.{unjoined-by}

-- ---- what is left with the record put in
module _ (xs : List RmapRec) (p : ℕ) (r : RmapRec) where
  left-gains : p ≤ length xs → valid rmap_start rmap_count 0 (spliced xs p p (r ∷ [])) ≡ true → length (with_rec xs p r) ≤ 64 → Gains xs r (with_rec xs p r)
  left-gains h v k =
      let j = joined_by xs p r h (joins_left xs p r) (joins_right xs p r) refl refl in
      record {
        few = k;
        sorted = joined-valid 0 (spliced xs p p (r ∷ [])) (with_rec xs p r) j v;
        covers = λ b. sym (joined-total (holds_block b) (holds-adds b) (spliced xs p p (r ∷ [])) (with_rec xs p r) j) ∙ total-put (holds_block b) xs p r;
        owners = λ o b. sym (joined-total (owns_block o b) (owns-adds o b) (spliced xs p p (r ∷ [])) (with_rec xs p r) j) ∙ total-put (owns_block o b) xs p r;
        unjoined = λ u. unjoined-by xs p r h u (joins_left xs p r) (joins_right xs p r) refl refl;
      }

-- ---- which records can be put in
fails : (t : Bool) → (t ≡ true → ⊥) → t ≡ false
fails true f = absurd (f refl)
fails false f = refl

from_at : (s : ℕ) (y : RmapRec) (ys : List RmapRec) → valid rmap_start rmap_count (rmap_end y) ys ≡ true → (t : Bool) → leb s y.start ≡ t → (x : RmapRec) → (Memᴰ x (drop (insert_place s ys) ys) → s ≤ x.start)
    → Memᴰ x (drop (cond t 0 (suc (insert_place s ys))) (y ∷ ys)) → s ≤ x.start
from_at s y ys v true e x below m =
    let h : s ≤ y.start = leb-true _ _ e in
    ⊎_elim (λ f. rw f h) (λ n. let k = (valid-mem rmap_start rmap_count (rmap_end y) ys v x n).low in omega arith) (mathlib.Core.List.Memᴰ.cases_cons m)
from_at s y ys v false e x below m = below m

-- the records from the place on start at s or later, those before it earlier
from_place : (s lo : ℕ) (xs : List RmapRec) → valid rmap_start rmap_count lo xs ≡ true → (x : RmapRec) → Memᴰ x (drop (insert_place s xs) xs) → s ≤ x.start
unfolding first_index
from_place s lo [] v x m = absurd (mathlib.Core.List.Memᴰ.not-nil m)
from_place s lo (y ∷ ys) v x m =
    let u = (valid-uncons rmap_start rmap_count lo y ys v).1 in
    from_at s y ys u (leb s y.start) refl x (from_place s (rmap_end y) ys u x) m

before-place : (s : ℕ) (xs : List RmapRec) (x : RmapRec) → Memᴰ x (take (insert_place s xs) xs) → x.start < s
before-place s xs x m = leb-false _ _ (before-fail (not_before s) xs x m)

module _ (xs : List RmapRec) (p : ℕ) (r : RmapRec) where
  either : (x : RmapRec) → Memᴰ x xs → Memᴰ x (take p xs) ⊎ Memᴰ x (drop p xs)
  either x m = mathlib.Core.List.Memᴰ.append_cases (take p xs) (rw (← take-append-drop p xs) at m)

  takes-accepts : takes xs p r ≡ true → Accepts xs r
  unfolding takes
  takes-accepts t =
      let v : valid rmap_start rmap_count 0 (take p xs ++ r ∷ drop p xs) ≡ true = both_right (valid rmap_start rmap_count 0 xs) (valid rmap_start rmap_count 0 (spliced xs p p (r ∷ []))) t in
      let w = valid-unjoin rmap_start rmap_count 0 (take p xs) (r ∷ drop p xs) v in
      let u = valid-uncons rmap_start rmap_count (ended rmap_start rmap_count 0 (take p xs)) r (drop p xs) w.1 in
      let f = u.0 in
      record {
        sorted = both_left (valid rmap_start rmap_count 0 xs) (valid rmap_start rmap_count 0 (spliced xs p p (r ∷ []))) t;
        some = f.some;
        high = f.high;
        apart = λ x m.
            ⊎_elim
            (λ a. let k = valid-before rmap_start rmap_count 0 (take p xs) w.0 x a in let l = f.low in inl (omega arith))
            (λ b. inr (valid-mem rmap_start rmap_count (rmap_end r) (drop p xs) u.1 x b).low)
            (either x m);
      }

  module _ (a : Accepts xs r) (low : (x : RmapRec) → Memᴰ x (take p xs) → x.start < r.start) (high : (x : RmapRec) → Memᴰ x (drop p xs) → r.start ≤ x.start) where
    two-parts : (valid rmap_start rmap_count 0 (take p xs) ≡ true) × (valid rmap_start rmap_count (ended rmap_start rmap_count 0 (take p xs)) (drop p xs) ≡ true)
    two-parts = valid-unjoin rmap_start rmap_count 0 (take p xs) (drop p xs) (ap (valid rmap_start rmap_count 0) (take-append-drop p xs) ∙ a.sorted)

    ends-before : (x : RmapRec) → Memᴰ x (take p xs) → rmap_end x ≤ r.start
    ends-before x m =
        let l = low x m in
        ⊎_elim (λ h. h) (λ h. absurd (omega arith)) (a.apart x (rw (take-append-drop p xs) at (mathlib.Core.List.Memᴰ.append_left (drop p xs) m)))

    starts-behind : (x : RmapRec) → Memᴰ x (drop p xs) → rmap_end r ≤ x.start
    starts-behind x m =
        let l = high x m in
        let s = (valid-mem rmap_start rmap_count (ended rmap_start rmap_count 0 (take p xs)) (drop p xs) two-parts.1 x m).some in
        ⊎_elim (λ h. absurd (omega arith)) (λ h. h) (a.apart x (rw (take-append-drop p xs) at (mathlib.Core.List.Memᴰ.append_right (take p xs) m)))

    accepts-takes : takes xs p r ≡ true
    unfolding takes
    accepts-takes =
        let e : ended rmap_start rmap_count 0 (take p xs) ≤ r.start = ended-le rmap_start rmap_count 0 r.start (take p xs) (omega arith) ends-before in
        let f : Follows (ended rmap_start rmap_count 0 (take p xs)) r.start r.count = record { low = e; some = a.some; high = a.high } in
        let b : valid rmap_start rmap_count (rmap_end r) (drop p xs) ≡ true = valid-from rmap_start rmap_count (ended rmap_start rmap_count 0 (take p xs)) (rmap_end r) (drop p xs) two-parts.1 starts-behind in
        rw a.sorted (valid-join rmap_start rmap_count 0 (take p xs) (r ∷ drop p xs) two-parts.0 (valid-cons rmap_start rmap_count (ended rmap_start rmap_count 0 (take p xs)) r (drop p xs) f b))

    -- a record that ends where the new one starts is the last before it
    left_alone : p ≤ length xs → joins_left xs p r ≡ false → (x : RmapRec) → Memᴰ x (take p xs) → joins x r ≡ true → (t : Bool) → ltb 0 p ≡ t → ⊥
    unfolding joins_left
    left_alone h e x m j false z = let k : p ≡ 0 = let q = ltb-false 0 p z in omega arith in mathlib.Core.List.Memᴰ.not-nil (rw k at m)
    left_alone h e x m j true z =
        let k : 0 < p = ltb-true 0 p z in
        let g : joins (get_or xs (p - 1) zero_rmap_rec) r ≡ false = rw z at e in
        let s : take p xs ≡ take (p - 1) xs ++ get_or xs (p - 1) zero_rmap_rec ∷ [] = sym (append-nil (take p xs)) ∙ put-left xs p [] k h in
        let w = valid-unjoin rmap_start rmap_count 0 (take (p - 1) xs) (get_or xs (p - 1) zero_rmap_rec ∷ []) (ap (valid rmap_start rmap_count 0) (sym s) ∙ two-parts.0) in
        let u = (valid-uncons rmap_start rmap_count (ended rmap_start rmap_count 0 (take (p - 1) xs)) (get_or xs (p - 1) zero_rmap_rec) [] w.1).0.low in
        let i : Memᴰ (get_or xs (p - 1) zero_rmap_rec) (take (p - 1) xs ++ get_or xs (p - 1) zero_rmap_rec ∷ []) = mathlib.Core.List.Memᴰ.append_right (take (p - 1) xs) (mathlib.Core.List.Memᴰ.head refl) in
        let o = low (get_or xs (p - 1) zero_rmap_rec) (rw (← s) at i) in
        let q = (joins-facts x r j).meet in
        ⊎_elim
        (λ n. let b = valid-before rmap_start rmap_count 0 (take (p - 1) xs) w.0 x n in omega arith)
        (λ n. never (sym g ∙ ap (λ (y : RmapRec). joins y r) (sym (mathlib.Core.List.Memᴰ.eq_of_singleton n)) ∙ j))
        (mathlib.Core.List.Memᴰ.append_cases (take (p - 1) xs) (rw s at m))

    -- and one that starts where the new one ends is the first behind it
    right-alone : joins_right xs p r ≡ false → (x : RmapRec) → Memᴰ x (drop p xs) → joins r x ≡ true → (t : Bool) → ltb p (length xs) ≡ t → ⊥
    unfolding joins_right
    right-alone e x m j false z =
        let k : length (drop p xs) ≡ 0 = let q = ltb-false p (length xs) z in length-drop p xs ∙ omega arith in
        mathlib.Core.List.Memᴰ.not-nil (rw (nil-of (drop p xs) k) at m)
    right-alone e x m j true z =
        let k : p < length xs = ltb-true p (length xs) z in
        let g : joins r (get_or xs p zero_rmap_rec) ≡ false = rw z at e in
        let s = put_right xs p k in
        let u = valid-uncons rmap_start rmap_count (ended rmap_start rmap_count 0 (take p xs)) (get_or xs p zero_rmap_rec) (drop (p + 1) xs) (ap (valid rmap_start rmap_count (ended rmap_start rmap_count 0 (take p xs))) (sym s) ∙ two-parts.1) in
        let i : Memᴰ (get_or xs p zero_rmap_rec) (get_or xs p zero_rmap_rec ∷ drop (p + 1) xs) = mathlib.Core.List.Memᴰ.head refl in
        let o = starts-behind (get_or xs p zero_rmap_rec) (rw (← s) at i) in
        let c = u.0.some in
        let q = (joins-facts r x j).meet in
        ⊎_elim
        (λ n. never (sym g ∙ ap (joins r) (sym n) ∙ j))
        (λ n. let b = (valid-mem rmap_start rmap_count (rmap_end (get_or xs p zero_rmap_rec)) (drop (p + 1) xs) u.1 x n).low in omega arith)
        (mathlib.Core.List.Memᴰ.cases_cons (rw s at m))

    -- where it joins neither neighbour, it joins no record
    alone : p ≤ length xs → joins_left xs p r ≡ false → joins_right xs p r ≡ false → NoneJoins xs r
    alone h e f x m = (fails (joins x r) (λ j. in_left x j (either x m)), fails (joins r x) (λ j. in_right x j (either x m)))
      where
        in_left : (x : RmapRec) → joins x r ≡ true → Memᴰ x (take p xs) ⊎ Memᴰ x (drop p xs) → ⊥
        in_left x j (inl n) = left_alone h e x n j _ refl
        in_left x j (inr n) =
            let s = (valid-mem rmap_start rmap_count (ended rmap_start rmap_count 0 (take p xs)) (drop p xs) two-parts.1 x n).some in
            let l = high x n in
            let q = (joins-facts x r j).meet in
            omega arith

        in_right : (x : RmapRec) → joins r x ≡ true → Memᴰ x (take p xs) ⊎ Memᴰ x (drop p xs) → ⊥
        in_right x j (inl n) =
            let l = low x n in
            let q = (joins-facts r x j).meet in
            omega arith
        in_right x j (inr n) = right-alone f x n j _ refl

-- ---- the numbers
-- how many records are left: as many as before or one less where the record joins one, else one more
length-joined : (xs : List RmapRec) (p : ℕ) (r : RmapRec) → p ≤ length xs → (x y : Bool) → joins_left xs p r ≡ x → joins_right xs p r ≡ y → length xs < length (joined_at x y xs p r) → (x ≡ false) × (y ≡ false)
length-joined xs p r h true true e f k =
    let a = (left-facts xs p r e).some in
    let b = (right-facts xs p r f).some in
    let n = length-put xs (p - 1) (p + 1) (glued (glued (get_or xs (p - 1) zero_rmap_rec) r) (get_or xs p zero_rmap_rec) ∷ []) (omega arith) in
    absurd (omega arith)
length-joined xs p r h true false e f k =
    let a = (left-facts xs p r e).some in
    let n = length-put xs (p - 1) p (glued (get_or xs (p - 1) zero_rmap_rec) r ∷ []) (omega arith) in
    absurd (omega arith)
length-joined xs p r h false true e f k =
    let b = (right-facts xs p r f).some in
    let n = length-put xs p (p + 1) (glued r (get_or xs p zero_rmap_rec) ∷ []) h in
    absurd (omega arith)
length-joined xs p r h false false e f k = (refl, refl)

-- a record that joins none is one more
length-alone : (xs : List RmapRec) (p : ℕ) (r : RmapRec) → p ≤ length xs → NoneJoins xs r → (x y : Bool) → joins_left xs p r ≡ x → joins_right xs p r ≡ y → length (joined_at x y xs p r) ≡ length xs + 1
length-alone xs p r h o true y e f =
    let a = left-facts xs p r e in
    let s = a.some in
    never (sym (o (get_or xs (p - 1) zero_rmap_rec) (getD-mem xs (p - 1) zero_rmap_rec (omega arith))).0 ∙ a.joined)
length-alone xs p r h o false true e f =
    let a = right-facts xs p r f in
    never (sym (o (get_or xs p zero_rmap_rec) (getD-mem xs p zero_rmap_rec a.some)).1 ∙ a.joined)
length-alone xs p r h o false false e f =
    let n = length-put xs p p (r ∷ []) h in
    omega arith

module _ (l : RmapList) (r : RmapRec) (few : l.len ≤ 64) where
  abbrev place : ℕ
  place = insert_place r.start (rmap_of l)

  at-answers : (t : Bool) → Accepts (rmap_of l) r → takes (rmap_of l) place r ≡ true → leb (length (with_rec (rmap_of l) place r)) 64 ≡ t → InsertAnswers l r (inserted_at (rmap_of l) place r)
  unfolding inserted_at takes
  at-answers true a w e =
      let h = index-le (not_before r.start) (rmap_of l) in
      let k : length (with_rec (rmap_of l) place r) ≤ 64 = leb-true _ _ e in
      let g = left-gains (rmap_of l) place r h (both_right (valid rmap_start rmap_count 0 (rmap_of l)) (valid rmap_start rmap_count 0 (spliced (rmap_of l) place place (r ∷ []))) w) k in
      done few a
      (λ n o. let m : length (with_rec (rmap_of l) place r) ≡ length (rmap_of l) + 1 = length-alone (rmap_of l) place r h o _ _ refl refl in omega arith)
      (rw e)
      (rw (e, rmap-packed (with_rec (rmap_of l) place r)) g)
  at-answers false a w e =
      let h = index-le (not_before r.start) (rmap_of l) in
      let k : 64 < length (with_rec (rmap_of l) place r) = leb-false _ _ e in
      let z : length (rmap_of l) ≤ 64 = simp length-take (omega arith) in
      let c = length-joined (rmap_of l) place r h _ _ refl refl (omega arith) in
      let o = alone (rmap_of l) place r a (before-place r.start (rmap_of l)) (from_place r.start 0 (rmap_of l) a.sorted) h c.0 c.1 in
      let m : length (with_rec (rmap_of l) place r) ≡ length (rmap_of l) + 1 = length-alone (rmap_of l) place r h o _ _ refl refl in
      full few a (omega arith) o (rw e)

  takes-answers : (t : Bool) → takes (rmap_of l) place r ≡ t → InsertAnswers l r (cond t (inserted_at (rmap_of l) place r) (insert_refused not_valid))
  takes-answers true e = at-answers _ (takes-accepts (rmap_of l) place r e) e refl
  takes-answers false e =
      unfit few (λ a. never (sym e ∙ accepts-takes (rmap_of l) place r a (before-place r.start (rmap_of l)) (from_place r.start 0 (rmap_of l) a.sorted))) refl

len-answers : (l : RmapList) (r : RmapRec) (t : Bool) → ltb 64 l.len ≡ t → InsertAnswers l r (inserted l r)
unfolding inserted
len-answers l r true e = long (ltb-true _ _ e) (rw e)
len-answers l r false e = rw e (takes-answers l r (ltb-false _ _ e) _ refl)

-- what `rmap_insert` answers, for every list and record
pub insert-answers : (l : RmapList) (r : RmapRec) → InsertAnswers l r (inserted l r)
insert-answers l r = len-answers l r _ refl

number_of : {l m : Inserted} → l ≡ m → l.number ≡ m.number
number_of e = ap (λ (t : Inserted). t.number) e

gains-if : (l : RmapList) (r : RmapRec) (t : Inserted) → t.number ≡ 0 → InsertAnswers l r t → Gains (rmap_of l) r (rmap_of t.list)
gains-if l r t z (long a e) = let y : 0 ≡ too_many_records = sym z ∙ number_of e in absurd (omega arith)
gains-if l r t z (unfit a b e) = let y : 0 ≡ not_valid = sym z ∙ number_of e in absurd (omega arith)
gains-if l r t z (full a b n o e) = let y : 0 ≡ too_many_records = sym z ∙ number_of e in absurd (omega arith)
gains-if l r t z (done a b n e g) = g

-- an accepted `rmap_insert` puts the record's blocks in for its owner, each once, and changes no other
pub insert-gains : (l : RmapList) (r : RmapRec) → (inserted l r).number ≡ 0 → Gains (rmap_of l) r (rmap_of (inserted l r).list)
insert-gains l r z = gains-if l r (inserted l r) z (insert-answers l r)

-- ---- of a list of at most 64, each number exactly where it belongs
module _ (l : RmapList) (r : RmapRec) (few : l.len ≤ 64) where
  number-32 : (t : Inserted) → InsertAnswers l r t → (t.number ≡ not_valid) ↔ (Accepts (rmap_of l) r → ⊥)
  number-32 t (long a e) = absurd (omega arith)
  number-32 t (unfit a b e) = (λ x. b, λ x. number_of e)
  number-32 t (full a b n o e) = (λ x. let y : not_valid ≡ too_many_records = sym x ∙ number_of e in absurd (omega arith), λ x. absurd (x b))
  number-32 t (done a b n e g) = (λ x. let y : not_valid ≡ 0 = sym x ∙ e in absurd (omega arith), λ x. absurd (x b))

  -- 32 exactly where the record can't be put in
  pub insert-32 : ((inserted l r).number ≡ not_valid) ↔ (Accepts (rmap_of l) r → ⊥)
  insert-32 = number-32 (inserted l r) (insert-answers l r)

  number-34 : (t : Inserted) → Accepts (rmap_of l) r → InsertAnswers l r t → (t.number ≡ too_many_records) ↔ ((length (rmap_of l) ≡ 64) × NoneJoins (rmap_of l) r)
  number-34 t c (long a e) = absurd (omega arith)
  number-34 t c (unfit a b e) = absurd (b c)
  number-34 t c (full a b n o e) = (λ x. (n, o), λ x. number_of e)
  number-34 t c (done a b n e g) = (λ x. let y : too_many_records ≡ 0 = sym x ∙ e in absurd (omega arith), λ x. absurd (n x.0 x.1))

  -- 34 exactly where the list is full and the record joins none
  pub insert-34 : Accepts (rmap_of l) r → ((inserted l r).number ≡ too_many_records) ↔ ((length (rmap_of l) ≡ 64) × NoneJoins (rmap_of l) r)
  insert-34 c = number-34 (inserted l r) c (insert-answers l r)
