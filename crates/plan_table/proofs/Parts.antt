-- The parts of a table, one after the other, are the whole.
-- Assumes nothing.
use Rattle.std.proofs.Common.{◌≡◌, ℕ, zero, suc, ◌+◌, ◌-◌, ◌<◌, Bool, true, false, cond, ◌&&◌, eqb, ltb, leb, List, [], ◌∷◌, ◌++◌, length, drop, replicate, sym, refl, ap, ◌∙◌, append_assoc, append-nil, arith, lt-ltb}
use borrow.Author.Tests.{eqb-false}
use Rattle.refusals.specs.Numbers.{wrong_length}
use Rattle.seqs.specs.Lists.{turns}
use Rattle.plan_table.specs.declared.Table.{Table}
use Rattle.plan_table.specs.Filling.{after_line, after_lines, lines_of, lines_joined, rest_of, lines_fitting, part_lines, table_part, table_behind, table_filled, parts_of, after_parts, ReachedByParts, Printing}

-- ---- one part

-- the lines that fit are the first ones
abbrev First : List (List ℕ) → List (List ℕ) → Type 0
First ls fs = lines_joined fs ++ lines_joined (drop (length fs) ls) ≡ lines_joined ls

first-at : (l : List ℕ) (ls fs : List (List ℕ)) (t : Bool) → First ls fs → First (l ∷ ls) (cond t (l ∷ fs) [])
unfolding lines_joined
first-at l ls fs true e = append_assoc l (lines_joined fs) (lines_joined (drop (length fs) ls)) ∙ ap (λ (x : List ℕ). l ++ x) e
first-at l ls fs false e = refl

fitting-first : (n at : ℕ) (ls : List (List ℕ)) → First ls (lines_fitting n at ls)
unfolding lines_fitting lines_joined
fitting-first n at [] = refl
fitting-first n at (l ∷ ls) = first-at l ls (lines_fitting n (at + length l) ls) (leb (at + length l) n) (fitting-first n (at + length l) ls)

-- what is left behind k lines
pub left_after : (k : ℕ) (t : Table) → (after_lines k t).left ≡ t.left - k
unfolding turns
left_after zero t = omega arith
left_after (suc k) t = let i = left_after k (after_line t) in omega arith

-- one line more
pub line-more : (k : ℕ) (t : Table) → after_lines (suc k) t ≡ after_line (after_lines k t)
unfolding turns
line-more zero t = refl
line-more (suc k) t = line-more k (after_line t)

-- the next lines without the first k of them are those of the state behind these
drop-lines : (k n : ℕ) (t : Table) → drop k (lines_of n t) ≡ lines_of (n - k) (after_lines k t)
unfolding lines_of turns
drop-lines zero n t = let e : n - 0 ≡ n = omega arith in rw e
drop-lines (suc k) zero t = let e : 0 - suc k ≡ 0 = omega arith in rw e
drop-lines (suc k) (suc n) t = let e : suc n - suc k ≡ n - k = omega arith in rw e (drop-lines k n (after_line t))

-- A PART AND WHAT IS LEFT BEHIND IT ARE WHAT WAS LEFT, whatever the buffer's length
pub part-rest : (t : Table) (n : ℕ) → table_part t n ++ rest_of (table_behind t n) ≡ rest_of t
unfolding part_lines
part-rest t n =
    let ls = lines_of t.left t in
    let k = length (lines_fitting n 0 ls) in
    ap (λ (m : ℕ). lines_joined (lines_fitting n 0 ls) ++ lines_joined (lines_of m (after_lines k t))) (left_after k t)
    ∙ ap (λ (x : List (List ℕ)). lines_joined (lines_fitting n 0 ls) ++ lines_joined x) (sym (drop-lines k t.left t))
    ∙ fitting-first n 0 ls

-- ---- all parts

-- NO BYTE IS LOST AND NONE COMES TWICE: the parts and what is left behind them are what was left, whatever the buffers' lengths
pub parts-rest : (t : Table) (ns : List ℕ) → parts_of t ns ++ rest_of (after_parts t ns) ≡ rest_of t
unfolding parts_of after_parts
parts-rest t [] = refl
parts-rest t (n ∷ ns) =
    append_assoc (table_part t n) (parts_of (table_behind t n) ns) (rest_of (after_parts (table_behind t n) ns))
    ∙ ap (λ (x : List ℕ). table_part t n ++ x) (parts-rest (table_behind t n) ns)
    ∙ part-rest t n

none_left : (t : Table) → t.left ≡ 0 → rest_of t ≡ []
unfolding lines_of lines_joined
none_left t e = rw e

-- where no line is left behind them, the parts are the whole
pub parts-done : (t : Table) (ns : List ℕ) → (after_parts t ns).left ≡ 0 → parts_of t ns ≡ rest_of t
parts-done t ns e =
    sym (append-nil (parts_of t ns)) ∙ ap (λ (x : List ℕ). parts_of t ns ++ x) (sym (none_left (after_parts t ns) e)) ∙ parts-rest t ns

-- ---- parts of one length

-- one part more
pub one_more : (t : Table) (n k : ℕ) → after_parts t (replicate (suc k) n) ≡ table_behind (after_parts t (replicate k n)) n
unfolding after_parts
one_more t n zero = refl
one_more t n (suc k) = one_more (table_behind t n) n k

pub reached-more : (n : ℕ) (t s : Table) {u : Table} → ReachedByParts n t s → u ≡ table_behind s n → ReachedByParts n t u
reached-more n t s r e = record { parts = suc r.parts; state-is = e ∙ ap (λ (x : Table). table_behind x n) r.state-is ∙ sym (one_more t n r.parts) }

-- A LOOP THAT WRITES EACH PART WRITES THE WHOLE
pub printing-whole : (n : ℕ) (t s : Table) (p : Printing n t s true) → parts_of t (replicate p.reached.parts n) ≡ rest_of t
printing-whole n t s p =
    parts-done t (replicate p.reached.parts n) (ap (λ (x : Table). x.left) (sym p.reached.state-is) ∙ p.whole refl)

-- ---- that it ends

some-put : (left k : ℕ) → 0 < left → cond {A = ℕ} (ltb 0 left && eqb k 0) wrong_length 0 ≡ 0 → 0 < k
some-put left k h = rw (lt-ltb 0 left h) (by (eqb k 0) refl)
  where
    by : (t : Bool) → eqb k 0 ≡ t → cond {A = ℕ} t wrong_length 0 ≡ 0 → 0 < k
    by true e z = absurd (omega arith)
    by false e z = let w = eqb-false k 0 e in omega arith

-- a turn that is refused or whose write fails is the last, and every other puts a line
pub part_falls : (t : Table) (n : ℕ) (written : Bool) → 0 < t.left → (written ≡ true → (table_filled t n).number ≡ 0)
    → (table_behind t n).left + cond written 1 0 < t.left + 1
unfolding table_filled
part_falls t n true h e =
    let k = some-put t.left (length (part_lines t n)) h (e refl) in
    let l = left_after (length (part_lines t n)) t in
    omega arith
part_falls t n false h e = let l = left_after (length (part_lines t n)) t in omega arith
