-- What a table has left as it begins: all that is to be printed. Its rows are put rising and added falling.
-- Assumes nothing.
use Rattle.std.proofs.Common.{◌≡◌, ℕ, zero, suc, ◌+◌, ◌-◌, ◌%◌, ◌^◌, ◌<◌, ◌≤◌, List, [], ◌∷◌, ◌++◌, length, take, sym, refl, ap, ◌∙◌, append_assoc, append-nil, arith, eq-eqb, ne_eqb, le-leb}
use borrow.Author.Tests.{lt-leb}
use Rattle.seqs.specs.Lists.{turns}
use Rattle.table_lines.specs.Lines.{header_bytes, refused_bytes, row_bytes, total_bytes}
use Rattle.geometry.specs.declared.Geometry.{Geometry}
use Rattle.table_lines.specs.declared.Row.{Row}
use Rattle.table_lines.specs.declared.Total.{Total}
use Rattle.plan_totals.specs.Totals.{plans_number, no_row, row_of, total_of}
use Rattle.plan_summary.specs.Summaries.{summary_of, row_by_summary}
use Rattle.plan_summary.proofs.Rows.{rows_agree}
use Rattle.plan_orders.specs.Orders.{falling_groups, added_by, total_by}
use Rattle.plan_orders.proofs.Sums.{falling-more, none-added}
use Rattle.plan_orders.proofs.Orders.{falling-whole}
use Rattle.plan_orders.proofs.Groups.{same-totals, adds-falling}
use Rattle.run.specs.Runs.{accepted}
use Rattle.run.proofs.Accepted.{plans-zero}
use Rattle.plan_table.specs.declared.Table.{Table}
use Rattle.plan_table.specs.Printed.{row_lines, table_bytes, table_or, table_answer, no_disk_bytes, plan_bytes, row_answer}
use Rattle.plan_table.specs.Filling.{no_sums, table_refused, whole_table, begun_table, no_disk, table_begun, line_of, with_row, sums_after, after_line, after_lines, lines_of, lines_joined, rest_of}
use Rattle.plan_table.proofs.Parts.{line-more}

-- ---- a refusal

refusal-line : (n : ℕ) → (n ≡ 0 → ⊥) → line_of (table_refused n) ≡ refused_bytes n
unfolding line_of
refusal-line n h = rw (ne_eqb n 0 h)

pub refusal-rest : (n : ℕ) → (n ≡ 0 → ⊥) → rest_of (table_refused n) ≡ refused_bytes n
unfolding lines_of lines_joined
refusal-rest n h = rw (refusal-line n h) (append-nil (refused_bytes n))

-- ---- a table

no_lines : (t : Table) → after_lines 0 t ≡ t
unfolding turns
no_lines t = refl

module _ (g : Geometry) where
  -- n rows and the sums are left, of which this is added
  abbrev pub rows_left : ℕ → Total → Table
  rows_left n s = record { number = 0; left = suc n; summary = summary_of g; sums = s }

  count-is : (summary_of g).agcount ≡ g.agcount
  unfolding summary_of
  count-is = refl

  header-line : line_of (whole_table g) ≡ header_bytes
  unfolding line_of
  header-line = rw (count-is, lt-leb (g.agcount + 2) 1 (omega arith), lt-leb (g.agcount + 2 - 1) g.agcount (omega arith))

  header-after : after_line (whole_table g) ≡ rows_left g.agcount no_sums
  unfolding sums_after
  header-after =
      let e : g.agcount + 2 - 1 ≡ suc g.agcount = omega arith in
      rw (count-is, lt-leb (g.agcount + 2) 1 (omega arith), lt-leb (g.agcount + 2 - 1) g.agcount (omega arith), e)

  row_line : (n : ℕ) (s : Total) → suc n ≤ g.agcount → line_of (rows_left (suc n) s) ≡ row_bytes (row_by_summary (summary_of g) (g.agcount - suc n))
  unfolding line_of
  row_line n s h =
      let e : suc (suc n) - 1 ≡ suc n = omega arith in
      rw (count-is, lt-leb (suc (suc n)) 1 (omega arith), e, le-leb (suc n) g.agcount h)

  row-after : (n : ℕ) (s : Total) → suc n ≤ g.agcount → after_line (rows_left (suc n) s) ≡ rows_left n (with_row s (row_by_summary (summary_of g) n))
  unfolding sums_after
  row-after n s h =
      let e : suc (suc n) - 1 ≡ suc n = omega arith in
      let k : g.agcount - 1 - (g.agcount - suc n) ≡ n = omega arith in
      rw (count-is, lt-leb (suc (suc n)) 1 (omega arith), e, le-leb (suc n) g.agcount h, k)

  last_line : (s : Total) → line_of (rows_left 0 s) ≡ total_bytes s
  unfolding line_of
  last_line s = refl

  last_rest : (s : Total) → lines_joined (lines_of 1 (rows_left 0 s)) ≡ total_bytes s
  unfolding lines_of lines_joined
  last_rest s = ap (λ (x : List ℕ). x ++ []) (last_line s) ∙ append-nil (total_bytes s)

  module _ (l : length g.label ≡ 12) (e : plans_number g ≡ 0) where
    -- the sums over the first j groups, counted from the last
    abbrev pub fallen : ℕ → Total
    fallen j = total_by g (take j (falling_groups g.agcount))

    -- one row more of a column, in 64 bits
    column-more : (f : ℕ → ℕ) (j : ℕ) → j < g.agcount → added_by f (take (suc j) (falling_groups g.agcount)) < 2 ^ 64
        → (added_by f (take j (falling_groups g.agcount)) + f (g.agcount - 1 - j)) % 2 ^ 64 ≡ added_by f (take (suc j) (falling_groups g.agcount))
    column-more f j h m = let w = falling-more f j g.agcount h in omega arith

    row-added : (j : ℕ) → j < g.agcount → with_row (fallen j) (row_of g (g.agcount - 1 - j)) ≡ fallen (suc j)
    unfolding with_row
    row-added j h =
        let t = (adds-falling g l e).sums-fit (suc j) in
        same-totals
        (column-more (λ k. (row_of g k).length) j h t.length)
        (column-more (λ k. (row_of g k).log) j h t.log)
        (column-more (λ k. (row_of g k).list) j h t.list)
        (column-more (λ k. (row_of g k).chunk) j h t.chunk)
        (column-more (λ k. (row_of g k).free) j h t.free)

    next-state : (n : ℕ) → suc n ≤ g.agcount → after_line (rows_left (suc n) (fallen (g.agcount - suc n))) ≡ rows_left n (fallen (g.agcount - n))
    next-state n h =
        let j = g.agcount - suc n in
        let i : n ≡ g.agcount - 1 - j = omega arith in
        let z : suc j ≡ g.agcount - n = omega arith in
        let r = rows_agree g l e n ∙ ap (row_of g) i in
        row-after n (fallen j) h
        ∙ ap (λ (x : Row). rows_left n (with_row (fallen j) x)) r
        ∙ ap (rows_left n) (row-added j (omega arith) ∙ ap fallen z)

    none-fallen : fallen 0 ≡ no_sums
    none-fallen =
        let ks = falling_groups g.agcount in
        same-totals
        (none-added (λ k. (row_of g k).length) ks)
        (none-added (λ k. (row_of g k).log) ks)
        (none-added (λ k. (row_of g k).list) ks)
        (none-added (λ k. (row_of g k).chunk) ks)
        (none-added (λ k. (row_of g k).free) ks)

    -- ROWS ARE ADDED FALLING: behind the header and j rows the sums are those over the last j groups, the last one first
    pub added-falling : (j : ℕ) → j ≤ g.agcount → after_lines (suc j) (whole_table g) ≡ rows_left (g.agcount - j) (fallen j)
    added-falling zero h =
        let z : g.agcount ≡ g.agcount - 0 = omega arith in
        line-more 0 (whole_table g) ∙ none_yet ∙ header-after ∙ ap (rows_left g.agcount) (sym none-fallen) ∙ ap (λ (n : ℕ). rows_left n (fallen 0)) z
      where
        none_yet : after_line (after_lines 0 (whole_table g)) ≡ after_line (whole_table g)
        none_yet = ap (λ (t : Table). after_line t) (no_lines (whole_table g))
    added-falling (suc j) h =
        let n = g.agcount - suc j in
        let a : g.agcount - j ≡ suc n = omega arith in
        let b : j ≡ g.agcount - suc n = omega arith in
        let c : g.agcount - n ≡ suc j = omega arith in
        line-more (suc j) (whole_table g)
        ∙ ap (λ (t : Table). after_line t) (added-falling j (omega arith) ∙ ap (λ (x : ℕ). rows_left x (fallen j)) a ∙ ap (λ (x : ℕ). rows_left (suc n) (fallen x)) b)
        ∙ next-state n (omega arith)
        ∙ ap (λ (x : ℕ). rows_left n (fallen x)) c

    all-fallen : fallen g.agcount ≡ total_of g
    all-fallen = ap (total_by g) (falling-whole g.agcount) ∙ (adds-falling g l e).last_line

    rows_more : (k : ℕ) → row_lines g k ++ row_bytes (row_of g k) ≡ row_lines g (suc k)
    unfolding row_lines
    rows_more k = refl

    lines_more : (n : ℕ) (t : Table) → lines_joined (lines_of (suc n) t) ≡ line_of t ++ lines_joined (lines_of n (after_line t))
    unfolding lines_of lines_joined
    lines_more n t = refl

    -- the rows before the last n, and the last n and the sums
    rows-and-rest : (n : ℕ) → n ≤ g.agcount
        → row_lines g (g.agcount - n) ++ lines_joined (lines_of (suc n) (rows_left n (fallen (g.agcount - n)))) ≡ row_lines g g.agcount ++ total_bytes (total_of g)
    rows-and-rest zero h =
        let z : g.agcount - 0 ≡ g.agcount = omega arith in
        ap (λ (x : ℕ). row_lines g x ++ lines_joined (lines_of 1 (rows_left 0 (fallen x)))) z
        ∙ ap (λ (x : List ℕ). row_lines g g.agcount ++ x) (last_rest (fallen g.agcount) ∙ ap total_bytes all-fallen)
    rows-and-rest (suc n) h =
        let k = g.agcount - suc n in
        let t = rows_left (suc n) (fallen k) in
        let z : suc k ≡ g.agcount - n = omega arith in
        let r : line_of t ≡ row_bytes (row_of g k) = row_line n (fallen k) h ∙ ap row_bytes (rows_agree g l e k) in
        let rest = lines_joined (lines_of (suc n) (rows_left n (fallen (g.agcount - n)))) in
        ap (λ (x : List ℕ). row_lines g k ++ x)
        (lines_more (suc n) t ∙ ap (λ (x : Table). line_of t ++ lines_joined (lines_of (suc n) x)) (next-state n h) ∙ ap (λ (x : List ℕ). x ++ rest) r)
        ∙ sym (append_assoc (row_lines g k) (row_bytes (row_of g k)) rest)
        ∙ ap (λ (x : List ℕ). x ++ rest) (rows_more k ∙ ap (row_lines g) z)
        ∙ rows-and-rest n (omega arith)

    no_rows : g.agcount - g.agcount ≡ 0 → [] ≡ row_lines g (g.agcount - g.agcount)
    unfolding row_lines
    no_rows e = rw e

    table_is : header_bytes ++ (row_lines g g.agcount ++ total_bytes (total_of g)) ≡ table_bytes g
    unfolding table_bytes
    table_is = refl

    -- ALL LINES OF A TABLE ARE THE TABLE
    pub table-rest : rest_of (whole_table g) ≡ table_bytes g
    table-rest =
        let z : g.agcount + 2 ≡ suc (suc g.agcount) = omega arith in
        let d : g.agcount - g.agcount ≡ 0 = omega arith in
        let first : after_line (whole_table g) ≡ rows_left g.agcount (fallen (g.agcount - g.agcount)) = header-after ∙ ap (rows_left g.agcount) (sym none-fallen ∙ ap fallen (sym d)) in
        let rest = lines_joined (lines_of (suc g.agcount) (rows_left g.agcount (fallen (g.agcount - g.agcount)))) in
        ap (λ (n : ℕ). lines_joined (lines_of n (whole_table g))) z
        ∙ lines_more (suc g.agcount) (whole_table g)
        ∙ ap (λ (x : Table). line_of (whole_table g) ++ lines_joined (lines_of (suc g.agcount) x)) first
        ∙ ap (λ (x : List ℕ). x ++ rest) header-line
        ∙ ap (λ (x : List ℕ). header_bytes ++ x) (ap (λ (x : List ℕ). x ++ rest) (no_rows d) ∙ rows-and-rest g.agcount (omega arith))
        ∙ table_is

-- ---- what a beginning answers

module _ (g : Geometry) where
  pub begun-refused : (plans_number g ≡ 0 → ⊥) → (table_refused (plans_number g) ≡ begun_table g) × (rest_of (table_refused (plans_number g)) ≡ table_answer g)
  unfolding begun_table table_answer
  begun-refused h = (rw (ne_eqb (plans_number g) 0 h), refusal-rest (plans_number g) h ∙ rw (ne_eqb (plans_number g) 0 h))

  pub begun-whole : length g.label ≡ 12 → plans_number g ≡ 0 → (whole_table g ≡ begun_table g) × (rest_of (whole_table g) ≡ table_answer g)
  unfolding begun_table table_answer
  begun-whole l e = (rw (eq-eqb (plans_number g) 0 e), table-rest g l e ∙ rw (eq-eqb (plans_number g) 0 e))

-- a row where the geometry or a plan is refused
pub row-refused : (g : Geometry) (k : ℕ) {m : ℕ} → m ≡ plans_number g → (m ≡ 0 → ⊥) → no_row m ≡ row_answer g k
unfolding row_answer
row-refused g k {m} e h = rw (← e, ne_eqb m 0 h) refl

-- ---- what an input answers

pub no-disk-rest : rest_of no_disk ≡ no_disk_bytes
unfolding line_of sums_after lines_of lines_joined no_disk_bytes
no-disk-rest = ap (λ (x : List ℕ). header_bytes ++ x) (append-nil (total_bytes no_sums))

pub input-empty : (xs : List ℕ) → length xs ≡ 0 → (no_disk ≡ table_begun xs) × (no_disk_bytes ≡ plan_bytes xs)
unfolding table_begun plan_bytes
input-empty [] e = (refl, refl)
input-empty (x ∷ xs) e = absurd (omega arith)

pub input-refused : (xs : List ℕ) → (length xs ≡ 0 → ⊥) → ((accepted xs).number ≡ 0 → ⊥)
    → (table_refused (accepted xs).number ≡ table_begun xs) × (rest_of (table_refused (accepted xs).number) ≡ plan_bytes xs)
unfolding table_begun plan_bytes
input-refused [] some h = absurd (some refl)
input-refused (x ∷ xs) some h =
    let n = (accepted (x ∷ xs)).number in
    (rw (ne_eqb n 0 h), refusal-rest n h ∙ rw (ne_eqb n 0 h))

pub input-accepted : (xs : List ℕ) → (length xs ≡ 0 → ⊥) → (accepted xs).number ≡ 0
    → (begun_table (accepted xs).geometry ≡ table_begun xs) × (table_answer (accepted xs).geometry ≡ plan_bytes xs)
unfolding table_begun plan_bytes table_answer
input-accepted [] some e = absurd (some refl)
input-accepted (x ∷ xs) some e =
    let n = (accepted (x ∷ xs)).number in
    (rw (eq-eqb n 0 e), rw (eq-eqb n 0 e, eq-eqb (plans_number (accepted (x ∷ xs)).geometry) 0 (plans-zero (x ∷ xs) e)))

-- AN EMPTY INPUT PRINTS THE TABLE OF NO DISK, and every other what it did: `refused 28` for a newline, too
pub empty-prints : plan_bytes [] ≡ no_disk_bytes
unfolding plan_bytes
empty-prints = refl

pub others-print : (x : ℕ) (xs : List ℕ) → plan_bytes (x ∷ xs) ≡ table_or (accepted (x ∷ xs)).number (accepted (x ∷ xs)).geometry
unfolding plan_bytes
others-print x xs = refl
