-- `plan::first::put_head` meets its contract.
-- Assumes nothing.
use Rattle.btree.specs.Owners.{negative}
use Rattle.seqs.specs.Lists.{appended}
use mathlib.Core.Path.{◌∙◌}
use Rattle.plan.proofs.first.put_head.Goals as goal

pub returns : goal.returns
unfolding appended negative
returns c = c.push.ensures ∙ rw (c.push-c.ensures, c.push-b.ensures, c.push-a.ensures)
