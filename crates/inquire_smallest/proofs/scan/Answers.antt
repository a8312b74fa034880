-- `inquire_smallest::scan` meets its contract: what is left of the sizes has the first that reaches the count.
-- Assumes nothing.
use Rattle.inquire_smallest.proofs.Rows.{all_left, found_here, not-here, nowhere}
use mathlib.Core.Path.{sym, ◌∙◌}
use native.Mathlib.Omega.{arith}
use Rattle.inquire_smallest.proofs.scan.Goals as goal

pub loop-i-init : goal.loop-i-init
loop-i-init c = let a = c.args in all_left a.p a.logical a.physical a.start a.count a.wanted

pub returns-then-is_enough : goal.returns-then-is_enough
returns-then-is_enough c = let k = c.loop-i in let a = c.args in sym (found_here a.p a.logical a.physical a.start a.count a.wanted k.i k.invariant (omega arith) (sym c.is_enough.ensures ∙ c.if-is_enough.true))

pub loop-i-preserved : goal.loop-i-preserved
loop-i-preserved c = let k = c.loop-i in let a = c.args in not-here a.p a.logical a.physical a.start a.count a.wanted k.i k.invariant (omega arith) (sym c.is_enough.ensures ∙ c.if-is_enough.false)

pub returns : goal.returns
returns c = let k = c.loop-i in let a = c.args in c.refused.ensures ∙ sym (nowhere a.p a.logical a.physical a.start a.count a.wanted k.i k.invariant (omega arith) (omega arith))
