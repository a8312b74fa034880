-- What planlist prints: the table of a geometry, or the line of a refusal.
-- Assumes nothing.
use Rattle.std.specs.Prelude.{ℕ, zero, suc, cond, List, [], ◌∷◌, ◌++◌, ◌==◌}
use Rattle.table_lines.specs.Lines.{row_bytes, header_bytes, total_bytes, refused_bytes}
use Rattle.geometry.specs.declared.Geometry.{Geometry}
use Rattle.table_lines.specs.declared.Row.{Row}
use Rattle.plan_totals.specs.Totals.{plans_number, no_row, row_of, total_of}
use Rattle.run.specs.Runs.{accepted}

-- the lines of groups 0 to n − 1: the row of each one's plan
unfoldable pub row_lines : Geometry → ℕ → List ℕ
row_lines g zero = []
row_lines g (suc n) = row_lines g n ++ row_bytes (row_of g n)

-- the table: the header, a line for each group, and the sums of the rows
unfoldable pub table_bytes : Geometry → List ℕ
table_bytes g = header_bytes ++ (row_lines g g.agcount ++ total_bytes (total_of g))

-- the table where the number is 0, else the line of the refusal
abbrev pub table_or : ℕ → Geometry → List ℕ
table_or n g = cond (n == 0) (table_bytes g) (refused_bytes n)

-- what is printed of a geometry: its table, or 31, or 25 where a plan is refused
unfoldable pub table_answer : Geometry → List ℕ
table_answer g = table_or (plans_number g) g

-- no disk: the header, and sums of zeros
unfoldable pub no_disk_bytes : List ℕ
no_disk_bytes = header_bytes ++ total_bytes (record { length = 0; log = 0; list = 0; chunk = 0; free = 0 })

-- WHAT PLANLIST PRINTS of its input: no bytes mean no disk; else the table of the run that the records ask for, or its refusal
unfoldable pub plan_bytes : List ℕ → List ℕ
plan_bytes [] = no_disk_bytes
plan_bytes (x ∷ xs) = table_or (accepted (x ∷ xs)).number (accepted (x ∷ xs)).geometry

-- `row_at`: 31, 25 where a plan is refused, 29, or the row of group k's plan
unfoldable pub row_answer : Geometry → ℕ → Row
row_answer g k = cond (plans_number g == 0) (row_of g k) (no_row (plans_number g))
