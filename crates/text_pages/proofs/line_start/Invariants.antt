-- `text_pages::line_start` meets its contract. Invariant: the lines behind n of them are those behind n - i of them from `at` on.
-- Assumes nothing.
use mathlib.Core.Path.{◌≡◌}
use Prim.Native.Nat.{◌-◌, ◌≤◌}
use lib.ListN.{length, drop}
use Rattle.text_pages.specs.Pages.{behind_lines}
use Rattle.text_pages.proofs.line_start.Given as goal

abbrev pub invariant-loop-i : goal.invariant-loop-i
invariant-loop-i l = (behind_lines l.n l.page ≡ behind_lines (l.n - l.i) (drop l.at l.page)) × (l.at ≤ length l.page)
