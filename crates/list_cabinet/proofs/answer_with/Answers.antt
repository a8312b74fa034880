-- `list_cabinet::answer_with` meets its contract.
-- Assumes nothing.
use Rattle.list_cabinet.proofs.Shares.{own-refusal, own-size, no_room}
use native.Mathlib.Omega.{arith}
use mathlib.Core.Path.{sym, ◌∙◌}
use Rattle.list_cabinet.proofs.answer_with.Goals as goal

pub returns-then-own-ne0 : goal.returns-then-own-ne0
returns-then-own-ne0 c = sym (own-refusal _ _ c.if-own-ne0.true)

pub returns-then-left-own : goal.returns-then-left-own
returns-then-left-own c = c.refused-short.ensures ∙ sym (no_room _ _ c.if-own-ne0.false c.if-left-own.true)

pub returns : goal.returns
returns c = sym (own-size _ _ c.if-own-ne0.false (omega arith))
