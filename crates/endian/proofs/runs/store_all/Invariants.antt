-- `endian::runs::store_all` meets its contract. Invariant: what is left of the table, from row i on, still makes the whole table's bytes.
-- Assumes nothing.
use mathlib.Core.Path.{◌≡◌}
use Prim.Native.Nat.{◌*◌, ◌≤◌}
use lib.Dec.{T}
use lib.ListN.{length, drop}
use Rattle.endian.specs.Fields.{write_fields, table, table_inside}
use Rattle.endian.proofs.runs.store_all.Given as goal

abbrev pub invariant-loop-i : goal.invariant-loop-i
invariant-loop-i l = (l.i ≤ length l.v) × (T (table_inside l.end (drop (2 * l.i) l.at))) × (write_fields (table (drop (2 * l.i) l.at) (drop l.i l.v)) l.buf ≡ write_fields (table l.at l.v) l.initial.buf) × (length l.buf ≡ length l.initial.buf)
