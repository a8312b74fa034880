-- `request_input::record_at` meets its contract.
-- Assumes nothing.
use mathlib.Core.Path.{◌∙◌}
use native.Mathlib.Omega.{arith}
use Rattle.endian.proofs.Laws.{got_in}
use Rattle.request_input.proofs.Marks.{answered, no_room, device-at, option-at, label-at, uuid-at, none-at}
use Rattle.request_input.proofs.record_at.Goals as goal

pub returns-then-len-at-lt3 : goal.returns-then-len-at-lt3
returns-then-len-at-lt3 c = answered _ _ _ c.requires (c.no_record.ensures ∙ no_room _ _ (omega arith))

pub returns-in-17494 : goal.returns-in-17494
returns-in-17494 c = answered _ _ _ c.requires (c.whole_record.ensures ∙ device-at _ _ _ (omega arith) (got_in c.be16.ensures (omega arith)) c.in-17494.is)

pub returns-in-20304 : goal.returns-in-20304
returns-in-20304 c = answered _ _ _ c.requires (c.option_record.ensures ∙ option-at _ _ _ (omega arith) (got_in c.be16.ensures (omega arith)) c.in-20304.is)

pub returns-in-19522 : goal.returns-in-19522
returns-in-19522 c = answered _ _ _ c.requires (c.whole_record-in-19522.ensures ∙ label-at _ _ _ (omega arith) (got_in c.be16.ensures (omega arith)) _ c.from.ensures c.in-19522.is)

pub returns-in-18756 : goal.returns-in-18756
returns-in-18756 c = answered _ _ _ c.requires (c.whole_record-in-18756.ensures ∙ uuid-at _ _ _ (omega arith) (got_in c.be16.ensures (omega arith)) c.in-18756.is)

pub returns-in_default : goal.returns-in_default
returns-in_default c = answered _ _ _ c.requires (c.no_record-in_default.ensures ∙ none-at _ _ c.be16.result.value (omega arith) (got_in c.be16.ensures (omega arith)) (λ e. omega arith) (λ e. omega arith) (λ e. omega arith) (λ e. omega arith))
