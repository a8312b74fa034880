-- `plan::first::put_log` meets its contract.
-- Assumes nothing.
use Rattle.btree.specs.Owners.{negative}
use Rattle.seqs.specs.Lists.{appended}
use mathlib.Core.Path.{◌∙◌}
use Rattle.plan.proofs.first.put_log.Goals as goal

pub returns-then-s : goal.returns-then-s
unfolding appended negative
returns-then-s c = c.push.ensures ∙ rw c.if-s.true

pub returns : goal.returns
unfolding appended
returns c = rw c.if-s.false
