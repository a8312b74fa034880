-- `reader_agreement::with_log` meets its contract.
-- Assumes nothing.
use mathlib.Core.Path.{◌∙◌}
use Rattle.reader_agreement.proofs.Laws.{log-unmade, log-made}
use Rattle.reader_agreement.proofs.with_log.Goals as goal

pub returns-then-log_block-ne0 : goal.returns-then-log_block-ne0
returns-then-log_block-ne0 c = c.unknown.ensures ∙ log-unmade _ _ c.args.block.now c.args.work.now c.requires.0 c.requires.1 _ _ c.log_block.ensures c.if-log_block-ne0.true

pub returns : goal.returns
returns c = log-made _ _ c.args.block.now c.args.work.now c.requires.0 c.requires.1 _ _ c.log_block.ensures _ c.if-log_block-ne0.false c.common_prefix.ensures
