-- `list_sector::sector_behind` meets its contract.
-- Assumes nothing.
use mathlib.Core.Path.{sym, ◌∙◌}
use native.Mathlib.Omega.{arith}
use Rattle.list_sector.proofs.Laws.{block-too-long, cut-before, said, unsaid}
use Rattle.list_sector.proofs.sector_behind.Goals as goal

pub returns-then-n-gt16384 : goal.returns-then-n-gt16384
returns-then-n-gt16384 c = block-too-long _ _ (omega arith)

pub returns-then-list-m : goal.returns-then-list-m
returns-then-list-m c = cut-before _ _ (omega arith) (omega arith)

pub returns-then-is_first : goal.returns-then-is_first
returns-then-is_first c = said _ _ (omega arith) (omega arith) (sym c.is_first.ensures ∙ c.if-is_first.true) _ c.half_at.ensures

pub returns : goal.returns
returns c = unsaid _ _ (omega arith) (omega arith) (sym c.is_first.ensures ∙ c.if-is_first.false)
