-- The longest line: 147 bytes.
-- Assumes nothing.
use mathlib.Core.List.{List, [], ◌∷◌}
use Prim.Native.Nat.{ℕ, ◌*◌, ◌^◌, ◌≤◌}
use native.Mathlib.Omega.{arith}
use lib.ListN.{length}
use Rattle.endian.specs.Bytes.{Below}
use Rattle.table_lines.specs.declared.Row.{Row}
use Rattle.table_lines.specs.Lines.{line, row_bytes}
use Rattle.table_lines.proofs.Digits.{length-64}
use Rattle.table_lines.proofs.Stores.{length-line}

-- a number of 64 bits and the byte behind it
line-most : (ns : List ℕ) → Below (2 ^ 64) ns → length (line ns) ≤ 21 * length ns
unfolding line
line-most [] h = omega arith
line-most (n ∷ ns) h =
    let a = length-64 n h.0 in
    let b = line-most ns h.1 in
    omega (arith, length-line n ns)

pub row-most : (r : Row) → Below (2 ^ 64) (r.group ∷ r.length ∷ r.log ∷ r.list ∷ r.chunk ∷ r.free ∷ r.longest ∷ []) → length (row_bytes r) ≤ 147
unfolding row_bytes
row-most r h = line-most (r.group ∷ r.length ∷ r.log ∷ r.list ∷ r.chunk ∷ r.free ∷ r.longest ∷ []) h
