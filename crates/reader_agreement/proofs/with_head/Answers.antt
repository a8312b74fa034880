-- `reader_agreement::with_head` meets its contract.
-- Assumes nothing.
use mathlib.Core.Path.{◌∙◌}
use Rattle.reader_agreement.proofs.Laws.{head-unmade, head-made}
use Rattle.reader_agreement.proofs.with_head.Goals as goal

pub returns-then-made-ne0 : goal.returns-then-made-ne0
returns-then-made-ne0 c = c.unknown.ensures ∙ head-unmade _ _ c.args.head.now c.args.work.now c.requires.0 c.requires.1 _ _ _ c.head_left-made.ensures.written c.if-made-ne0.true

pub returns : goal.returns
returns c = head-made _ _ c.args.head.now c.args.work.now c.requires.0 c.requires.1 _ _ _ c.head_left-made.ensures.written _ c.if-made-ne0.false c.common_prefix.ensures
