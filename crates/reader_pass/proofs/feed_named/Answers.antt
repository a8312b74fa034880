-- `reader_pass::feed_named` meets its contract.
-- Assumes nothing.
use mathlib.Core.Path.{◌∙◌}
use Rattle.reader_pass.proofs.States.{unnamed, named}
use Rattle.reader_pass.proofs.feed_named.Goals as goal

pub returns-then-named-ne0 : goal.returns-then-named-ne0
returns-then-named-ne0 c = c.ended_by.ensures ∙ unnamed _ _ _ c.named_by-named.ensures c.if-named-ne0.true

pub returns : goal.returns
returns c = named c.args.p _ _ c.named_by-named.ensures c.if-named-ne0.false
