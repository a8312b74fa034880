-- `text_pages::line_start` meets its contract. Invariant: the lines behind n of them are those behind n - i of them from `at` on.
-- Assumes nothing.
use mathlib.Core.Path.{sym, ◌∙◌}
use native.Mathlib.Omega.{arith}
use native.Mathlib.Nat.{sub-zero}
use Rattle.text_pages.proofs.Lines.{one-line, lines-done, lines-past}
use Rattle.text_pages.proofs.line_start.Goals as goal

pub loop-i-init : goal.loop-i-init
loop-i-init c = (simp sub-zero, omega arith)

pub returns-then-at-page : goal.returns-then-at-page
returns-then-at-page c = let k = c.loop-i in (sym (k.invariant.0 ∙ lines-past _ _ k.at (omega arith)), k.invariant.1)

pub loop-i-preserved : goal.loop-i-preserved
loop-i-preserved c = (c.loop-i.invariant.0 ∙ one-line _ _ _ _ c.loop-i-test.true c.next_line-at.ensures.0, c.next_line-at.ensures.1)

pub returns : goal.returns
returns c = let k = c.loop-i in (sym (k.invariant.0 ∙ lines-done _ _ (omega arith)), k.invariant.1)
