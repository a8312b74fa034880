-- `list_lengths::format_number` meets its contract.
-- Assumes nothing.
use Rattle.group_bytes.proofs.Accepted.{or-first, or-second}
use Rattle.list_lengths.specs.Pieces.{format_number}
use Rattle.run.specs.Runs.{time_refusal}
use mathlib.Core.Path.{sym, ◌∙◌}
use Rattle.list_lengths.proofs.format_number.Goals as goal

pub returns-then-plans-ne0 : goal.returns-then-plans-ne0
unfolding format_number
returns-then-plans-ne0 c = or-first _ _ _ c.plans_number-plans.ensures c.if-plans-ne0.true

pub returns : goal.returns
unfolding format_number time_refusal
returns c = or-second _ _ _ (sym c.plans_number-plans.ensures ∙ c.if-plans-ne0.false) c.encode_time-stored.ensures.number_is
