-- `list_holes::in_hole` meets its contract.
-- Assumes nothing.
use native.Mathlib.Omega.{arith}
use Rattle.list_holes.proofs.Laws.{elsewhere, data-before, data-behind}
use Rattle.list_holes.proofs.in_hole.Goals as goal

pub returns-then-hole-at : goal.returns-then-hole-at
returns-then-hole-at c = elsewhere _ _ _ _ c.if-hole-at.true

pub returns-then-next-at : goal.returns-then-next-at
returns-then-next-at c = data-before _ _ _ _ c.if-hole-at.false (omega arith)

pub returns-then-len-next : goal.returns-then-len-next
returns-then-len-next c = data-behind _ _ _ _ c.if-hole-at.false (omega arith)

pub returns : goal.returns
returns c = data-before _ _ _ _ c.if-hole-at.false (omega arith)
