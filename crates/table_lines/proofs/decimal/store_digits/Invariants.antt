-- `table_lines::decimal::store_digits` meets its contract. Invariant: the digits of x, put before i, still make all of n's.
-- Assumes nothing.
use mathlib.Core.Path.{◌≡◌}
use Prim.Native.Nat.{◌-◌, ◌≤◌}
use lib.ListN.{length}
use Rattle.endian.specs.Bytes.{patch}
use Rattle.table_lines.specs.Decimal.{decimal}
use Rattle.table_lines.proofs.decimal.store_digits.Given as goal

abbrev pub invariant-loop-x : goal.invariant-loop-x
invariant-loop-x l = (patch (l.i - length (decimal l.x)) (decimal l.x) l.buf ≡ patch (l.end - length (decimal l.n)) (decimal l.n) l.initial.buf) × (l.i - length (decimal l.x) ≡ l.end - length (decimal l.n)) × (length (decimal l.x) ≤ l.i) × (l.i ≤ l.end) × (length l.buf ≡ length l.initial.buf)

abbrev pub decreases-loop-x : goal.decreases-loop-x
decreases-loop-x l = l.x
