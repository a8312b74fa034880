-- No line of an accepted geometry's table is longer than 147 bytes, so that as many buffers of so many bytes as lines hold the table.
-- Assumes nothing.
use Rattle.std.proofs.Common.{◌≡◌, ℕ, zero, suc, ◌+◌, ◌-◌, ◌^◌, ◌<◌, ◌≤◌, Bool, true, false, cond, eqb, ltb, leb, List, [], ◌∷◌, length, refl, ◌∙◌, arith, lit<, length-append, ne_eqb, leb-false, leb-true}
use Rattle.seqs.specs.Lists.{turns}
use Rattle.seqs.proofs.Laws.{choose-elim}
use Rattle.endian.specs.Bytes.{Below}
use Rattle.table_lines.specs.Lines.{line, header_bytes, total_bytes, refused_bytes, row_bytes}
use Rattle.table_lines.proofs.Digits.{length-64}
use Rattle.table_lines.proofs.Stores.{length-line}
use Rattle.table_lines.proofs.Longest.{row-most}
use Rattle.geometry.specs.declared.Geometry.{Geometry}
use Rattle.geometry_answers.specs.Named.{is_answer}
use Rattle.plan_site.specs.declared.Site.{Site}
use Rattle.plan_site.specs.Sites.{site_of, SoundSite}
use Rattle.plan_site.proofs.Sites.{site-sound}
use Rattle.plan_closed.specs.Closed.{list_short, has_root_chunk}
use Rattle.table_lines.specs.declared.Row.{Row}
use Rattle.table_lines.specs.declared.Total.{Total}
use Rattle.plan_totals.specs.Totals.{plans_number, larger_count, before_chunk, after_chunk, after_list, closed_row}
use Rattle.plan_totals.proofs.Rows.{row-closed}
use Rattle.plan_totals.proofs.Whole.{all-planned}
use Rattle.plan_summary.specs.Summaries.{summary_of, no_summary, row_by_summary}
use Rattle.plan_summary.proofs.Laws.{few-groups}
use Rattle.plan_summary.proofs.Rows.{rows_agree}
use Rattle.plan_orders.specs.Orders.{SumsFit}
use Rattle.plan_table.specs.declared.Table.{Table}
use Rattle.plan_table.specs.Printed.{table_bytes}
use Rattle.plan_table.specs.Filling.{no_sums, table_refused, whole_table, with_row, sums_after, after_lines, Short, LongEnough, line_of, parts_of}
use Rattle.plan_table.proofs.Begun.{refusal-rest, table-rest}
use Rattle.plan_table.proofs.Short.{parts_whole}

choose-lt : (t : Bool) (a b m : ℕ) → a < m → b < m → cond t a b < m
choose-lt true a b m h k = h
choose-lt false a b m h k = k

-- ---- the header and the sums

header-short : length header_bytes ≤ 147
unfolding header_bytes
header-short = omega arith

no-numbers : length (line []) ≡ 0
unfolding line
no-numbers = refl

total-short : (t : Total) → SumsFit t → length (total_bytes t) ≤ 147
unfolding total_bytes
total-short t h =
    let ns = t.length ∷ t.log ∷ t.list ∷ t.chunk ∷ t.free ∷ [] in
    let w = length-append (116 ∷ 111 ∷ 116 ∷ 97 ∷ 108 ∷ 32 ∷ []) (line ns) in
    omega
    (arith, w, no-numbers, length-line t.length (t.log ∷ t.list ∷ t.chunk ∷ t.free ∷ []), length-line t.log (t.list ∷ t.chunk ∷ t.free ∷ []), length-line t.list (t.chunk ∷ t.free ∷ []), length-line t.chunk (t.free ∷ []), length-line t.free [], length-64 t.length h.length, length-64 t.log h.log, length-64 t.list h.list, length-64 t.chunk h.chunk, length-64 t.free h.free)

-- ---- a refusal

refused-short : (n : ℕ) → n < 2 ^ 64 → length (refused_bytes n) ≤ 147
unfolding refused_bytes
refused-short n b =
    let w = length-append (114 ∷ 101 ∷ 102 ∷ 117 ∷ 115 ∷ 101 ∷ 100 ∷ 32 ∷ []) (line (n ∷ [])) in
    omega (arith, w, no-numbers, length-line n [], length-64 n b)

-- every line of a state with this number
refusals-short : (n : ℕ) → (n ≡ 0 → ⊥) → n < 2 ^ 64 → (k left : ℕ) (t : Total)
    → length (line_of (after_lines k (record { number = n; left = left; summary = no_summary; sums = t }))) ≤ 147
unfolding line_of turns
refusals-short n h b zero left t = rw (ne_eqb n 0 h) (refused-short n b)
refusals-short n h b (suc k) left t =
    refusals-short n h b k (left - 1) (sums_after (record { number = n; left = left; summary = no_summary; sums = t }))

refusal-short : (n : ℕ) → (n ≡ 0 → ⊥) → n < 2 ^ 64 → Short (table_refused n)
refusal-short n h b k = refusals-short n h b k 1 no_sums

-- A REFUSAL IS ONE PART: its line, in a buffer of 147 bytes or more
pub refused-whole : (n : ℕ) → (n ≡ 0 → ⊥) → n < 2 ^ 64 → (m : ℕ) → 147 ≤ m → parts_of (table_refused n) (m ∷ []) ≡ refused_bytes n
refused-whole n h b m e = parts_whole (table_refused n) (m ∷ []) (refusal-short n h b) (e, tt) (omega arith) ∙ refusal-rest n h

-- ---- a row

abbrev numbers : Row → List ℕ
numbers r = r.group ∷ r.length ∷ r.log ∷ r.list ∷ r.chunk ∷ r.free ∷ r.longest ∷ []

module _ (s : Site) (ok : SoundSite s) (few : s.agno < 2 ^ 64) where
  abbrev m : ℕ
  m = 2 ^ 64

  length-fits : s.length < m
  length-fits = let w = ok.length_most in omega arith

  before-fits : before_chunk s < m
  before-fits = let w = ok.chunk-ends in omega arith

  after-fits : after_chunk s < m
  after-fits = let w = ok.length_most in omega arith

  list-fits : after_list s < m
  list-fits = let w = ok.length_most in omega arith

  closed_at : (t : Bool) → list_short s ≡ t → Below m (numbers (closed_row s))
  unfolding closed_row
  closed_at true e = rw e (lit< tt, (lit< tt, (lit< tt, (lit< tt, (lit< tt, (lit< tt, (lit< tt, tt)))))))
  closed_at false e =
      let w = ok.length_most in
      let v = ok.chunk-ends in
      let n = ok.need-most in
      let o = ok.log-most in
      rw e (
        few,
        (
          length-fits,
          (
            choose-lt s.has_log s.log_blocks 0 m (omega arith) (lit< tt),
            (
              omega arith,
              (
                choose-lt (has_root_chunk s) s.chunk_blocks 0 m (omega arith) (lit< tt),
                (
                  choose-lt (has_root_chunk s) (before_chunk s + after_chunk s) (after_list s) m (omega arith) list-fits,
                  (
                    choose-lt (has_root_chunk s) (larger_count (before_chunk s) (after_chunk s)) (after_list s) m (choose-lt (ltb (before_chunk s) (after_chunk s)) (after_chunk s) (before_chunk s) m after-fits before-fits) list-fits,
                    tt,
                  ),
                ),
              ),
            ),
          ),
        ),
      )

-- ---- sums in 64 bits

row_fits : (t : Total) (r : Row) → SumsFit (with_row t r)
unfolding with_row
row_fits t r = record { length = omega arith; log = omega arith; list = omega arith; chunk = omega arith; free = omega arith }

still-fits : (s : Table) → SumsFit s.sums → SumsFit (sums_after s)
unfolding sums_after
still-fits s h =
    choose-elim SumsFit (eqb s.number 0) _ _
    (λ a. choose-elim SumsFit (leb s.left 1) _ _ (λ b. h)
    (λ b. choose-elim SumsFit (leb (s.left - 1) s.summary.agcount) _ _ (λ c. row_fits s.sums _) (λ c. h)))
    (λ a. h)

none-fits : SumsFit no_sums
none-fits = record { length = lit< tt; log = lit< tt; list = lit< tt; chunk = lit< tt; free = lit< tt }

-- ---- a table

module _ (g : Geometry) (l : length g.label ≡ 12) (e : plans_number g ≡ 0) where
  here : is_answer g ≡ true
  here = (all-planned g l e).0

  group-is : (k : ℕ) → (site_of g k).agno ≡ k
  unfolding site_of
  group-is k = refl

  row-short : (k : ℕ) → k < g.agcount → length (row_bytes (row_by_summary (summary_of g) k)) ≤ 147
  row-short k h =
      let f = few-groups g l here in
      let z = group-is k in
      let r : row_by_summary (summary_of g) k ≡ closed_row (site_of g k) = rows_agree g l e k ∙ row-closed g l here k h in
      rw r
      (row-most (closed_row (site_of g k))
      (closed_at (site_of g k) (site-sound g k l here) (omega arith) (list_short (site_of g k)) refl))

  abbrev state : ℕ → Total → Table
  state left t = record { number = 0; left = left; summary = summary_of g; sums = t }

  line-short : (n : ℕ) (t : Total) → SumsFit t → length (line_of (state n t)) ≤ 147
  unfolding line_of summary_of
  line-short n t h =
      choose-elim (λ (x : List ℕ). length x ≤ 147) (leb n 1) (total_bytes t) _ (λ a. total-short t h)
      (λ a.
      choose-elim (λ (x : List ℕ). length x ≤ 147) (leb (n - 1) g.agcount) (row_bytes (row_by_summary (summary_of g) (g.agcount - (n - 1)))) header_bytes
      (λ b. row-short (g.agcount - (n - 1)) (let u = leb-false n 1 a in let v = leb-true (n - 1) g.agcount b in omega arith))
      (λ b. header-short))

  lines-short : (k n : ℕ) (t : Total) → SumsFit t → length (line_of (after_lines k (state n t))) ≤ 147
  unfolding turns
  lines-short zero n t h = line-short n t h
  lines-short (suc k) n t h = lines-short k (n - 1) (sums_after (state n t)) (still-fits (state n t) h)

  short-whole : Short (whole_table g)
  short-whole k = lines-short k (g.agcount + 2) no_sums none-fits

  -- THE PARTS OF A TABLE ARE THE TABLE: in buffers of 147 bytes and more, as many as it has lines or more
  pub table-whole : (ns : List ℕ) → LongEnough ns → g.agcount + 2 ≤ length ns → parts_of (whole_table g) ns ≡ table_bytes g
  table-whole ns h k = parts_whole (whole_table g) ns short-whole h k ∙ table-rest g l e
