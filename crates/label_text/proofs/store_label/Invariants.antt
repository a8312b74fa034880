-- `label_text::store_label` meets its contract. Invariant: the text of the bytes that were taken, the last ones, stands from `at` to the end.
-- Assumes nothing.
use mathlib.Core.Path.{◌≡◌}
use Prim.Native.Nat.{◌+◌, ◌-◌, ◌*◌, ◌≤◌}
use lib.ListN.{length, drop}
use Rattle.label_text.specs.Text.{label_text}
use Rattle.endian.specs.Bytes.{patch}
use Rattle.label_text.proofs.store_label.Given as goal

abbrev pub invariant-loop-b : goal.invariant-loop-b
invariant-loop-b l = (l.buf ≡ patch l.at (label_text (drop (12 - length l.yielded) l.label)) l.initial.buf) × (l.at + length (label_text (drop (12 - length l.yielded) l.label)) ≡ 48) × (48 ≤ 4 * length l.yielded + l.at) × (length l.yielded ≤ 12) × (length l.buf ≡ 48)
