-- What the loop that fills a buffer leaves: the lines that still fit, over those that are put already, are the part.
-- Assumes nothing.
use Rattle.std.proofs.Common.{◌≡◌, ℕ, zero, suc, ◌+◌, ◌-◌, ◌<◌, Bool, true, false, cond, not, ◌&&◌, eqb, ltb, leb, List, [], ◌∷◌, ◌++◌, length, sym, refl, ap, ◌∙◌, arith, length-append, ltb-true, eq-eqb, ne_eqb, eqb-true}
use borrow.Author.Tests.{eqb-false}
use Rattle.refusals.specs.Numbers.{wrong_length}
use Rattle.seqs.specs.Lists.{turns}
use Rattle.endian.specs.Answer.{answer}
use Rattle.endian.specs.Bytes.{patch}
use Rattle.endian.proofs.Laws.{patch-append, length-patch}
use Rattle.table_lines.specs.Lines.{PutLine}
use Rattle.structs.proofs.Reading.{patch-apart}
use Rattle.plan_table.specs.declared.Table.{Table}
use Rattle.plan_table.specs.Filling.{line_of, after_line, after_lines, lines_of, lines_joined, lines_fitting, part_lines, table_part, table_behind, table_filled, Stepped}
use Rattle.plan_table.proofs.Parts.{left_after}

-- the first of the next n lines
pub first-line : (t : Table) (n : ℕ) → 0 < n → lines_of n t ≡ line_of t ∷ lines_of (n - 1) (after_line t)
unfolding lines_of
first-line t zero h = absurd (omega arith)
first-line t (suc n) h = let e : suc n - 1 ≡ n = omega arith in rw e

-- ---- one turn

full_at : (b : Bool) → (answer b ≡ 0 → ⊥) → b ≡ false
full_at true h = absurd (h refl)
full_at false h = refl

put-at : (b : Bool) → answer b ≡ 0 → b ≡ true
put-at true h = refl
put-at false h = absurd (omega arith)

module _ (t : Table) (at : ℕ) (old : List ℕ) {number end : ℕ} {new : List ℕ} (p : PutLine at (line_of t) old number end new) where
  pub stepped-full : (number ≡ 0 → ⊥) → Stepped t at old t at true new
  stepped-full h =
      let e = full_at (leb (at + length (line_of t)) (length old)) (λ z. h (p.number_is ∙ z)) in
      record { table_is = rw e; at-is = rw e; full_is = rw e; bytes-are = rw e (rw e at p.bytes-are) }

  pub stepped-put : {s : Table} → number ≡ 0 → s ≡ after_line t → Stepped t at old s end false new
  stepped-put h z =
      let e = put-at (leb (at + length (line_of t)) (length old)) (sym p.number_is ∙ h) in
      record { table_is = rw e z; at-is = rw e (rw e at p.end_is); full_is = rw e; bytes-are = rw e (rw e at p.bytes-are) }

-- ---- all turns

-- the lines that are still to be put in state s, where the next begins at `at`
abbrev pub todo : ℕ → Table → ℕ → Bool → List (List ℕ)
todo n s at full = cond full [] (lines_fitting n at (lines_of s.left s))

-- a turn of the loop from state t on, over what was in the buffer
pub record Going (t : Table) (old : List ℕ) (s : Table) (at : ℕ) (full : Bool) (new : List ℕ) : Type 0 where
  pub same_length : length new ≡ length old
  pub end_is : at + length (lines_joined (todo (length old) s at full)) ≡ length (table_part t (length old))
  pub bytes-are : patch at (lines_joined (todo (length old) s at full)) new ≡ patch 0 (table_part t (length old)) old
  pub state-is : after_lines (length (todo (length old) s at full)) s ≡ table_behind t (length old)

pub begins : (t : Table) (old : List ℕ) → Going t old t 0 false old
unfolding part_lines
begins t old = record { same_length = refl; end_is = omega arith; bytes-are = refl; state-is = refl }

module _ (n at : ℕ) (l : List ℕ) (ls : List (List ℕ)) where
  fits : leb (at + length l) n ≡ true → lines_fitting n at (l ∷ ls) ≡ l ∷ lines_fitting n (at + length l) ls
  unfolding lines_fitting
  fits e = rw e

  stops : leb (at + length l) n ≡ false → lines_fitting n at (l ∷ ls) ≡ []
  unfolding lines_fitting
  stops e = rw e

joined-cons : (l : List ℕ) (ls : List (List ℕ)) → lines_joined (l ∷ ls) ≡ l ++ lines_joined ls
unfolding lines_joined
joined-cons l ls = refl

-- a line and those behind it
put_both : (at : ℕ) (l : List ℕ) (ls : List (List ℕ)) (xs : List ℕ) → patch (at + length l) (lines_joined ls) (patch at l xs) ≡ patch at (lines_joined (l ∷ ls)) xs
unfolding lines_joined
put_both at l ls xs = sym (patch-apart at (at + length l) l (lines_joined ls) xs (omega arith)) ∙ sym (patch-append at l (lines_joined ls) xs)

one_more : (s : Table) (l : List ℕ) (ls : List (List ℕ)) → after_lines (length (l ∷ ls)) s ≡ after_lines (length ls) (after_line s)
unfolding turns
one_more s l ls = refl

module _ (t : Table) (old : List ℕ) (s : Table) (at : ℕ) (full : Bool) (new : List ℕ) (going : Going t old s at full new) (more : full ≡ false) (some : 0 < s.left) where
  g : Going t old s at false new
  g = rw more at going

  abbrev n : ℕ
  n = length old

  abbrev l : List ℕ
  l = line_of s

  goes_at : (b : Bool) → leb (at + length l) n ≡ b
      → Going t old (cond b (after_line s) s) (cond b (at + length l) at) (not b) (cond b (patch at l new) new)
  goes_at true e =
      let k = ap (lines_fitting n at) (first-line s s.left some) ∙ fits n at l (lines_of (s.left - 1) (after_line s)) e in
      let f = lines_fitting n (at + length l) (lines_of (s.left - 1) (after_line s)) in
      let z = g.end_is in
      let a : at + length (lines_joined (l ∷ f)) ≡ length (table_part t n) = rw k at z in
      let c : length (lines_joined (l ∷ f)) ≡ length l + length (lines_joined f) = ap length (joined-cons l f) ∙ length-append l (lines_joined f) in
      record {
        same_length = length-patch at l new ∙ g.same_length;
        end_is = omega arith;
        bytes-are = put_both at l f new ∙ ap (λ (x : List (List ℕ)). patch at (lines_joined x) new) (sym k) ∙ g.bytes-are;
        state-is = sym (one_more s l f) ∙ ap (λ (x : List (List ℕ)). after_lines (length x) s) (sym k) ∙ g.state-is;
      }
  goes_at false e =
      let k = ap (lines_fitting n at) (first-line s s.left some) ∙ stops n at l (lines_of (s.left - 1) (after_line s)) e in
      record {
        same_length = g.same_length;
        end_is = rw k at g.end_is;
        bytes-are = rw k at g.bytes-are;
        state-is = rw k at g.state-is;
      }

  pub goes_on : {s' : Table} {at' : ℕ} {full' : Bool} {new' : List ℕ} → Stepped s at new s' at' full' new' → Going t old s' at' full' new'
  goes_on w =
      rw (w.table_is, w.at-is, w.full_is, w.bytes-are, g.same_length) (goes_at (leb (at + length l) n) refl)

  -- a turn puts a line, or is the last
  pub falls : {s' : Table} {at' : ℕ} {full' : Bool} {new' : List ℕ} → Stepped s at new s' at' full' new' → s'.left + cond full' 0 1 < s.left + cond full 0 1
  falls w = rw (w.table_is, w.full_is, more) (by (leb (at + length l) (length new)))
    where
      by : (b : Bool) → (cond {A = Table} b (after_line s) s).left + cond (not b) 0 1 < s.left + 1
      by true = omega arith
      by false = omega arith

-- ---- where it ends

none_left : (s : Table) (n at : ℕ) → lines_fitting n at (lines_of 0 s) ≡ []
unfolding lines_of lines_fitting
none_left s n at = refl

nothing-todo : (n : ℕ) (s : Table) (at : ℕ) (full : Bool) → (full ≡ false → s.left ≡ 0) → todo n s at full ≡ []
nothing-todo n s at true h = refl
nothing-todo n s at false h = ap (λ (m : ℕ). lines_fitting n at (lines_of m s)) (h refl) ∙ none_left s n at

-- as many are left as before where none is put
same_left : (a k : ℕ) → (ltb 0 a && eqb (a - k) a) ≡ (ltb 0 a && eqb k 0)
same_left a k = by (ltb 0 a) (eqb k 0) refl refl
  where
    by : (t u : Bool) → ltb 0 a ≡ t → eqb k 0 ≡ u → (t && eqb (a - k) a) ≡ (t && u)
    by false u h e = refl
    by true true h e = let z = eqb-true k 0 e in eq-eqb (a - k) a (omega arith)
    by true false h e = let z = eqb-false k 0 e in let m = ltb-true 0 a h in ne_eqb (a - k) a (λ d. z (omega arith))

module _ (t : Table) (old : List ℕ) (s : Table) (at : ℕ) (full : Bool) (new : List ℕ) (g : Going t old s at full new) (h : full ≡ false → s.left ≡ 0) where
  todo-none : todo (length old) s at full ≡ []
  todo-none = nothing-todo (length old) s at full h

  pub ends-bytes : new ≡ patch 0 (table_part t (length old)) old
  unfolding lines_joined patch
  ends-bytes = rw todo-none at g.bytes-are

  end-at : at ≡ length (table_part t (length old))
  unfolding lines_joined
  end-at = let z = rw todo-none at g.end_is in omega arith

  state-at : s ≡ table_behind t (length old)
  unfolding turns
  state-at = rw todo-none at g.state-is

  left_at : s.left ≡ t.left - length (part_lines t (length old))
  left_at = ap (λ (x : Table). x.left) state-at ∙ left_after (length (part_lines t (length old))) t

  number-at : {r : ℕ} → r ≡ cond (ltb 0 t.left && eqb s.left t.left) wrong_length 0
      → r ≡ cond (ltb 0 t.left && eqb (length (part_lines t (length old))) 0) wrong_length 0
  number-at e =
      e ∙ ap (λ (x : ℕ). cond {A = ℕ} (ltb 0 t.left && eqb x t.left) wrong_length 0) left_at
      ∙ ap (λ (x : Bool). cond {A = ℕ} x wrong_length 0) (same_left t.left (length (part_lines t (length old))))

  pub ends-filled : {r : ℕ} → r ≡ cond (ltb 0 t.left && eqb s.left t.left) wrong_length 0
      → record { number = r; end = at; table = s } ≡ table_filled t (length old)
  unfolding table_filled
  ends-filled e = rw (number-at e, end-at, state-at) refl
