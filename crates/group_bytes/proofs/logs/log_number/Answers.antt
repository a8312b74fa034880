-- `group_bytes::logs::log_number` meets its contract.
-- Assumes nothing.
use mathlib.Core.Path.{sym, ◌∙◌}
use Rattle.group_bytes.specs.Answers.{log_refusal}
use Rattle.group_bytes.proofs.Accepted.{or-first}
use Rattle.group_bytes.proofs.Logging.{other_block, block-fits}
use Rattle.group_bytes.proofs.logs.log_number.Goals as goal

pub returns-then-plans-ne0 : goal.returns-then-plans-ne0
unfolding log_refusal
returns-then-plans-ne0 c = or-first _ _ _ c.plans_number-plans.ensures c.if-plans-ne0.true

pub returns-then-len-g : goal.returns-then-len-g
returns-then-len-g c = other_block c.args.g _ (sym c.plans_number-plans.ensures ∙ c.if-plans-ne0.false) c.if-len-g.true

pub returns : goal.returns
returns c = block-fits c.args.g _ (sym c.plans_number-plans.ensures ∙ c.if-plans-ne0.false) c.if-len-g.false
