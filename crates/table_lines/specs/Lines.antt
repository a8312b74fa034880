-- The lines that planlist and inquire print.
-- Assumes nothing.
use Rattle.std.specs.Prelude.{◌≡◌, List, [], ◌∷◌, ◌++◌, Bool, cond, ℕ, ◌+◌, eqb, length}
use Rattle.endian.specs.Answer.{room, answer, valued}
use Rattle.endian.specs.Bytes.{patch}
use Rattle.table_lines.specs.Decimal.{decimal}
use Rattle.table_lines.specs.declared.Row.{Row}
use Rattle.table_lines.specs.declared.Total.{Total}

abbrev pub space : ℕ
space = 32

abbrev pub newline : ℕ
newline = 10

-- what stands behind a number before those of the list: a space, or the newline behind the last
abbrev pub separator_before : List ℕ → ℕ
separator_before [] = newline
separator_before (n ∷ ns) = space

-- numbers in decimal, one space between two, and a newline
unfoldable pub line : List ℕ → List ℕ
line [] = []
line (n ∷ ns) = decimal n ++ (separator_before ns ∷ line ns)

-- a group's line: group number, then blocks: all, log, free list, chunk, free, longest free record
unfoldable pub row_bytes : Row → List ℕ
row_bytes r = line (r.group ∷ r.length ∷ r.log ∷ r.list ∷ r.chunk ∷ r.free ∷ r.longest ∷ [])

-- `group length log list chunk free longest`
unfoldable pub header_bytes : List ℕ
header_bytes =
    103 ∷ 114 ∷ 111 ∷ 117 ∷ 112 ∷ space
    ∷ 108 ∷ 101 ∷ 110 ∷ 103 ∷ 116 ∷ 104 ∷ space
    ∷ 108 ∷ 111 ∷ 103 ∷ space
    ∷ 108 ∷ 105 ∷ 115 ∷ 116 ∷ space
    ∷ 99 ∷ 104 ∷ 117 ∷ 110 ∷ 107 ∷ space
    ∷ 102 ∷ 114 ∷ 101 ∷ 101 ∷ space
    ∷ 108 ∷ 111 ∷ 110 ∷ 103 ∷ 101 ∷ 115 ∷ 116 ∷ newline
    ∷ []

-- `total` and the sums
unfoldable pub total_bytes : Total → List ℕ
total_bytes s = (116 ∷ 111 ∷ 116 ∷ 97 ∷ 108 ∷ space ∷ []) ++ line (s.length ∷ s.log ∷ s.list ∷ s.chunk ∷ s.free ∷ [])

-- `refused` and the number
unfoldable pub refused_bytes : ℕ → List ℕ
refused_bytes n = (114 ∷ 101 ∷ 102 ∷ 117 ∷ 115 ∷ 101 ∷ 100 ∷ space ∷ []) ++ line (n ∷ [])

-- what a call of `inquire holds` did: `held` or `released`; `refused` and the number where it isn't 0
unfoldable pub answer_bytes : Bool → ℕ → List ℕ
answer_bytes release n =
    cond (eqb n 0)
    (cond release
    (114 ∷ 101 ∷ 108 ∷ 101 ∷ 97 ∷ 115 ∷ 101 ∷ 100 ∷ newline ∷ [])
    (104 ∷ 101 ∷ 108 ∷ 100 ∷ newline ∷ []))
    (refused_bytes n)

-- `held` or `free`, then the run's first block and its length
unfoldable pub run_line : Bool → ℕ → ℕ → List ℕ
run_line held start count =
    cond held (104 ∷ 101 ∷ 108 ∷ 100 ∷ space ∷ []) (102 ∷ 114 ∷ 101 ∷ 101 ∷ space ∷ []) ++ line (start ∷ count ∷ [])

-- A write of a line's bytes at `at` over `old`: its number, where the line ends, and what it leaves. A line that doesn't fit is refused by
-- 27.
pub record PutLine (at : ℕ) (bytes old : List ℕ) (number end : ℕ) (left : List ℕ) : Type 0 where
  pub number_is : number ≡ answer (room (at + length bytes) old)
  pub end_is : end ≡ valued (room (at + length bytes) old) (at + length bytes)
  pub bytes-are : left ≡ cond (room (at + length bytes) old) (patch at bytes old) old
