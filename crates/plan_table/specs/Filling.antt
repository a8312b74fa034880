-- A table part by part: a state that knows how many lines are left and what is added up so far, and what the next part puts into a lent
-- buffer.
-- Assumes nothing.
use Rattle.std.specs.Prelude.{◌≡◌, ℕ, zero, suc, ◌+◌, ◌-◌, ◌%◌, ◌^◌, ◌≤◌, Bool, true, cond, not, ◌&&◌, List, [], ◌∷◌, ◌++◌, length, replicate, ◌==◌, nat_le, nat_lt}
use Rattle.refusals.specs.Numbers.{wrong_length}
use Rattle.seqs.specs.Lists.{turns}
use Rattle.endian.specs.Bytes.{patch}
use Rattle.table_lines.specs.Lines.{header_bytes, refused_bytes, row_bytes, total_bytes}
use Rattle.geometry.specs.declared.Geometry.{Geometry}
use Rattle.table_lines.specs.declared.Row.{Row}
use Rattle.table_lines.specs.declared.Total.{Total}
use Rattle.plan_totals.specs.Totals.{plans_number}
use Rattle.plan_summary.specs.Summaries.{summary_of, no_summary, row_by_summary}
use Rattle.run.specs.Runs.{accepted}
use Rattle.plan_table.specs.declared.Table.{Table}
use Rattle.plan_table.specs.declared.Filled.{Filled}

-- ---- the states

-- no row is added yet
abbrev pub no_sums : Total
no_sums = record { length = 0; log = 0; list = 0; chunk = 0; free = 0 }

-- one line is left: the refusal's
abbrev pub table_refused : ℕ → Table
table_refused n = record { number = n; left = 1; summary = no_summary; sums = no_sums }

-- all lines of a geometry's table are left
abbrev pub whole_table : Geometry → Table
whole_table g = record { number = 0; left = g.agcount + 2; summary = summary_of g; sums = no_sums }

-- `begin_table`: all lines of a geometry's table, or the line of 31 or 25
unfoldable pub begun_table : Geometry → Table
begun_table g = cond (plans_number g == 0) (whole_table g) (table_refused (plans_number g))

-- no disk: the header and the sums
abbrev pub no_disk : Table
no_disk = record { number = 0; left = 2; summary = no_summary; sums = no_sums }

-- `begin`: no disk for an empty input; else all lines of the table of the run that the records ask for, or the line of its refusal
unfoldable pub table_begun : List ℕ → Table
table_begun [] = no_disk
table_begun (x ∷ xs) =
    cond ((accepted (x ∷ xs)).number == 0) (begun_table (accepted (x ∷ xs)).geometry) (table_refused (accepted (x ∷ xs)).number)

-- ---- the lines of a state

-- by what the next line is: a refusal's; the sums, which are the last; before them a row; before the rows the header
abbrev pub by_line : {A : Type 0} → Table → A → A → A → A → A
by_line t refused sums row header =
    cond (t.number == 0) (cond (nat_le t.left 1) sums (cond (nat_le (t.left - 1) t.summary.agcount) row header)) refused

-- the group whose row is put: rising
abbrev pub group_put : Table → ℕ
group_put t = t.summary.agcount - (t.left - 1)

-- the group whose row is added with it, as far from the last as the other is from the first: falling
abbrev pub group_added : Table → ℕ
group_added t = t.summary.agcount - 1 - group_put t

-- the next line
unfoldable pub line_of : Table → List ℕ
line_of t = by_line t (refused_bytes t.number) (total_bytes t.sums) (row_bytes (row_by_summary t.summary (group_put t))) header_bytes

-- sums and a row, in 64 bits
unfoldable pub with_row : Total → Row → Total
with_row t r =
    record {
      length = (t.length + r.length) % 2 ^ 64;
      log = (t.log + r.log) % 2 ^ 64;
      list = (t.list + r.list) % 2 ^ 64;
      chunk = (t.chunk + r.chunk) % 2 ^ 64;
      free = (t.free + r.free) % 2 ^ 64;
    }

-- the sums behind the next line: another row is added where that is a row
unfoldable pub sums_after : Table → Total
sums_after t = by_line t t.sums t.sums (with_row t.sums (row_by_summary t.summary (group_added t))) t.sums

-- the state behind the next line, and behind n lines
abbrev pub after_line : Table → Table
after_line t = record { number = t.number; left = t.left - 1; summary = t.summary; sums = sums_after t }

abbrev pub after_lines : ℕ → Table → Table
after_lines n t = turns (λ (s : Table). after_line s) n t

-- the next n lines
unfoldable pub lines_of : ℕ → Table → List (List ℕ)
lines_of zero t = []
lines_of (suc n) t = line_of t ∷ lines_of n (after_line t)

-- lines, one after the other
unfoldable pub lines_joined : List (List ℕ) → List ℕ
lines_joined [] = []
lines_joined (l ∷ ls) = l ++ lines_joined ls

-- the bytes that are left
abbrev pub rest_of : Table → List ℕ
rest_of t = lines_joined (lines_of t.left t)

-- ---- the next part

-- of these lines those, from the first, that fit whole into n bytes, of which the first `at` are taken
unfoldable pub lines_fitting : ℕ → ℕ → List (List ℕ) → List (List ℕ)
lines_fitting n at [] = []
lines_fitting n at (l ∷ ls) = cond (nat_le (at + length l) n) (l ∷ lines_fitting n (at + length l) ls) []

-- the lines of the next part in a buffer of n bytes
unfoldable pub part_lines : Table → ℕ → List (List ℕ)
part_lines t n = lines_fitting n 0 (lines_of t.left t)

-- the bytes of the next part in a buffer of n bytes
abbrev pub table_part : Table → ℕ → List ℕ
table_part t n = lines_joined (part_lines t n)

-- the state behind it
abbrev pub table_behind : Table → ℕ → Table
table_behind t n = after_lines (length (part_lines t n)) t

-- `fill`: where the next part ends, and the state behind it; 27 where a line is left and not even one fits
unfoldable pub table_filled : Table → ℕ → Filled
table_filled t n =
    record {
      number = cond (nat_lt 0 t.left && length (part_lines t n) == 0) wrong_length 0;
      end = length (table_part t n);
      table = table_behind t n;
    }

-- ---- the code's step

-- One line over `old`, where it fits at `at`: the state behind it, where the next begins, whether it had no room, and what it leaves.
pub record Stepped (t : Table) (at : ℕ) (old : List ℕ) (t' : Table) (at' : ℕ) (full : Bool) (new : List ℕ) : Type 0 where
  pub table_is : t' ≡ cond (nat_le (at + length (line_of t)) (length old)) (after_line t) t
  pub at-is : at' ≡ cond (nat_le (at + length (line_of t)) (length old)) (at + length (line_of t)) at
  pub full_is : full ≡ not (nat_le (at + length (line_of t)) (length old))
  pub bytes-are : new ≡ cond (nat_le (at + length (line_of t)) (length old)) (patch at (line_of t) old) old

-- ---- all parts

-- the parts that buffers of these lengths take, one after the other
unfoldable pub parts_of : Table → List ℕ → List ℕ
parts_of t [] = []
parts_of t (n ∷ ns) = table_part t n ++ parts_of (table_behind t n) ns

-- the state behind them
unfoldable pub after_parts : Table → List ℕ → Table
after_parts t [] = t
after_parts t (n ∷ ns) = after_parts (table_behind t n) ns

-- no line is longer than 147 bytes: seven numbers of 64 bits, each with a byte behind it
abbrev pub Short : Table → Type 0
Short t = (k : ℕ) → length (line_of (after_lines k t)) ≤ 147

-- each of these buffers holds such a line
abbrev pub LongEnough : List ℕ → Type 0
LongEnough [] = Unit {0}
LongEnough (n ∷ ns) = (147 ≤ n) × LongEnough ns

-- ---- a program's loop

-- s is the state behind some parts of t, each in a buffer of n bytes
pub record ReachedByParts (n : ℕ) (t s : Table) : Type 0 where
  pub parts : ℕ
  pub state-is : s ≡ after_parts t (replicate parts n)

-- and no line is left where each of them was written
pub record Printing (n : ℕ) (t s : Table) (written : Bool) : Type 0 where
  pub reached : ReachedByParts n t s
  pub whole : written ≡ true → s.left ≡ 0
