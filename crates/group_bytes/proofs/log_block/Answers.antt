-- `group_bytes::log_block` meets its contract.
-- Assumes nothing.
use mathlib.Core.Path.{sym, ◌∙◌}
use borrow.Author.Tests.{ne_eqb}
use Rattle.structs.proofs.Written.{refused, done}
use Rattle.group_bytes.proofs.log_block.Goals as goal

pub returns-then-n-ne0 : goal.returns-then-n-ne0
returns-then-n-ne0 c = refused (sym c.log_number-n.ensures) (ne_eqb _ 0 c.if-n-ne0.true)

pub fill_log-requires : goal.fill_log-requires
fill_log-requires c = sym c.log_number-n.ensures ∙ c.if-n-ne0.false

pub returns : goal.returns
returns c = done (sym c.log_number-n.ensures ∙ c.if-n-ne0.false) c.fill_log.ensures
