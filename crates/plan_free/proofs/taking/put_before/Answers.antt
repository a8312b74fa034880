-- `plan_free::taking::put_before` meets its contract.
-- Assumes nothing.
use mathlib.Core.Path.{◌∙◌}
use borrow.Author.Tests.{lt-ltb, le-ltb}
use Rattle.seqs.specs.Lists.{appended}
use Rattle.plan_free.proofs.taking.put_before.Goals as goal

pub returns-then-rs-s : goal.returns-then-rs-s
unfolding appended
returns-then-rs-s c = c.push.ensures ∙ simp (lt-ltb _ _ c.if-rs-s.true)

pub returns : goal.returns
unfolding appended
returns c = simp (le-ltb _ _ c.if-rs-s.false)
