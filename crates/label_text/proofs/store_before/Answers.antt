-- `label_text::store_before` meets its contract.
-- Assumes nothing.
use native.Mathlib.Omega.{arith}
use Rattle.label_text.proofs.Laws.{hidden, zero-shown, other-shown, stored, none-stored}
use Rattle.label_text.proofs.store_before.Goals as goal

pub returns-then-end-eq48 : goal.returns-then-end-eq48
returns-then-end-eq48 c = none-stored _ _ _ (hidden _ _ c.if-b-eq0.true (omega arith))

pub returns-then-b-eq0 : goal.returns-then-b-eq0
returns-then-b-eq0 c = stored _ _ _ _ _ (zero-shown _ _ c.if-b-eq0.true (omega arith)) c.store_byte.ensures

pub returns : goal.returns
returns c = stored _ _ _ _ _ (other-shown _ _ c.if-b-eq0.false) c.store_byte-2.ensures
