-- `group_bytes::heads::head_number` meets its contract.
-- Assumes nothing.
use mathlib.Core.Path.{sym, ◌∙◌}
use native.Mathlib.Omega.{arith}
use Rattle.head_bytes.specs.Head.{head_length}
use Rattle.group_bytes.specs.Answers.{head_refusal}
use Rattle.group_bytes.proofs.Accepted.{or-first}
use Rattle.group_bytes.proofs.Made.{other_length, no-group, head-fits}
use Rattle.group_bytes.proofs.heads.head_number.Goals as goal

pub plans_known-plans-requires : goal.plans_known-plans-requires
plans_known-plans-requires c = c.requires

pub returns-then-plans-ne0 : goal.returns-then-plans-ne0
unfolding head_refusal
returns-then-plans-ne0 c = or-first _ _ _ c.plans_known-plans.ensures c.if-plans-ne0.true

pub returns-then-len-head_length : goal.returns-then-len-head_length
unfolding head_length
returns-then-len-head_length c = other_length c.args.g c.args.k _ (sym c.plans_known-plans.ensures ∙ c.if-plans-ne0.false) (λ e. c.if-len-head_length.true (e ∙ sym c.head_length.ensures))

pub returns-then-k-g : goal.returns-then-k-g
unfolding head_length
returns-then-k-g c = head-fits c.args.g c.args.k _ (sym c.plans_known-plans.ensures ∙ c.if-plans-ne0.false) (c.if-len-head_length.false ∙ c.head_length.ensures) c.if-k-g.true

pub returns : goal.returns
unfolding head_length
returns c = no-group c.args.g c.args.k _ (sym c.plans_known-plans.ensures ∙ c.if-plans-ne0.false) (c.if-len-head_length.false ∙ c.head_length.ensures) (omega arith)
