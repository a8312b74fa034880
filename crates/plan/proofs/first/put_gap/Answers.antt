-- `plan::first::put_gap` meets its contract.
-- Assumes nothing.
use Rattle.seqs.specs.Lists.{appended}
use borrow.Author.Tests.{lt-ltb, le-ltb}
use mathlib.Core.Path.{◌∙◌}
use Rattle.plan.proofs.first.put_gap.Goals as goal

pub returns-then-a-b : goal.returns-then-a-b
unfolding appended
returns-then-a-b c = c.push.ensures ∙ simp (lt-ltb _ _ c.if-a-b.true)

pub returns : goal.returns
unfolding appended
returns c = simp (le-ltb _ _ c.if-a-b.false)
