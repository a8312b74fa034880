-- `plan_free::taking::put_after` meets its contract.
-- Assumes nothing.
use mathlib.Core.Path.{◌∙◌}
use borrow.Author.Tests.{lt-ltb, le-ltb}
use Rattle.seqs.specs.Lists.{appended}
use Rattle.plan_free.proofs.taking.put_after.Goals as goal

pub returns-then-e-re : goal.returns-then-e-re
unfolding appended
returns-then-e-re c = c.push.ensures ∙ simp (c.end_of-re.ensures, lt-ltb _ _ (rw c.end_of-re.ensures at c.if-e-re.true))

pub returns : goal.returns
unfolding appended
returns c = simp (le-ltb _ _ (rw c.end_of-re.ensures at c.if-e-re.false))
