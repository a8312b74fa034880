-- How many parts a table has: one for each line at most, where each buffer is as long as the longest line.
-- Assumes nothing.
use Rattle.std.proofs.Common.{◌≡◌, ℕ, zero, suc, ◌+◌, ◌-◌, ◌<◌, ◌≤◌, List, [], ◌∷◌, length, refl, arith, le-leb}
use Rattle.seqs.specs.Lists.{turns}
use Rattle.plan_table.specs.declared.Table.{Table}
use Rattle.plan_table.specs.Filling.{Short, LongEnough, line_of, after_line, after_lines, lines_of, rest_of, lines_fitting, part_lines, table_behind, parts_of, after_parts}
use Rattle.plan_table.proofs.Steps.{first-line}
use Rattle.plan_table.proofs.Parts.{left_after, parts-done}

-- the first line fits
fits_one : (n : ℕ) (l : List ℕ) (ls : List (List ℕ)) → length l ≤ n → 0 < length (lines_fitting n 0 (l ∷ ls))
unfolding lines_fitting
fits_one n l ls h = rw (le-leb (0 + length l) n (omega arith)) (omega arith)

-- a part has a line, where one is left
some-lines : (t : Table) (n : ℕ) → Short t → 147 ≤ n → 0 < t.left → 0 < length (part_lines t n)
unfolding part_lines turns
some-lines t n s h some =
    rw (first-line t t.left some) (fits_one n (line_of t) (lines_of (t.left - 1) (after_line t)) (let w = s 0 in omega arith))

-- k lines behind m lines
after-after : (m k : ℕ) (t : Table) → after_lines k (after_lines m t) ≡ after_lines (m + k) t
unfolding turns
after-after zero k t = let e : 0 + k ≡ k = omega arith in rw e refl
after-after (suc m) k t = let e : suc m + k ≡ suc (m + k) = omega arith in rw e (after-after m k (after_line t))

same-short : (t : Table) (n : ℕ) → Short t → Short (table_behind t n)
same-short t n s k = let m = length (part_lines t n) in rw (after-after m k t) (s (m + k))

-- behind as many parts as lines no line is left
all_done : (t : Table) (ns : List ℕ) → Short t → LongEnough ns → t.left ≤ length ns → (after_parts t ns).left ≡ 0
unfolding after_parts
all_done t [] s e h = omega arith
all_done t (n ∷ ns) s e h = all_done (table_behind t n) ns (same-short t n s) e.1 (fewer t.left refl)
  where
    fewer : (k : ℕ) → t.left ≡ k → (table_behind t n).left ≤ length ns
    fewer zero z = let l = left_after (length (part_lines t n)) t in omega arith
    fewer (suc k) z =
        let w = some-lines t n s e.0 (omega arith) in
        let l = left_after (length (part_lines t n)) t in
        omega arith

-- THE PARTS, ONE AFTER THE OTHER, ARE THE WHOLE: in buffers of 147 bytes and more, as many as lines are left or more
pub parts_whole : (t : Table) (ns : List ℕ) → Short t → LongEnough ns → t.left ≤ length ns → parts_of t ns ≡ rest_of t
parts_whole t ns s e h = parts-done t ns (all_done t ns s e h)
