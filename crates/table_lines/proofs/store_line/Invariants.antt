-- `table_lines::store_line` meets its contract. Invariant: the line of the numbers that were taken, the last ones, stands from `at` to the end;
-- `behind` comes before it.
-- Assumes nothing.
use mathlib.Core.Path.{◌≡◌}
use Prim.Native.Nat.{◌+◌, ◌-◌, ◌≤◌}
use lib.ListN.{length, drop}
use Rattle.endian.specs.Bytes.{patch}
use Rattle.table_lines.specs.Lines.{line, separator_before as after}
use Rattle.table_lines.proofs.store_line.Given as goal

abbrev pub invariant-loop-number : goal.invariant-loop-number
invariant-loop-number l = (l.buf ≡ patch l.at (line (drop (length l.numbers - length l.yielded) l.numbers)) l.initial.buf) × (l.at + length (line (drop (length l.numbers - length l.yielded) l.numbers)) ≡ l.end) × (l.behind ≡ after (drop (length l.numbers - length l.yielded) l.numbers)) × (length l.yielded ≤ length l.numbers) × (length l.buf ≡ length l.initial.buf)
