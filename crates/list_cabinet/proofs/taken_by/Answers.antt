-- `list_cabinet::taken_by` meets its contract.
-- Assumes nothing.
use Rattle.list_cabinet.proofs.Shares.{none-taken}
use Rattle.list_cabinet.specs.Cabinet.{taken_by}
use borrow.Author.Tests.{eq-eqb}
use mathlib.Core.Path.{sym}
use Rattle.list_cabinet.proofs.taken_by.Goals as goal

pub returns-then-answer-ne0 : goal.returns-then-answer-ne0
returns-then-answer-ne0 c = sym (none-taken _ c.if-answer-ne0.true)

pub returns : goal.returns
unfolding taken_by
returns c = rw (eq-eqb _ 0 c.if-answer-ne0.false)
