-- `list_apply::wants` meets its contract.
-- Assumes nothing.
use Rattle.std.proofs.Common.{sym, ◌∙◌}
use Rattle.list_apply.proofs.Steps.{wants-none, wants-head, wants-zeros, wants-piece}
use Rattle.list_apply.proofs.wants.Goals as goal

pub returns-then-a-ne-GOES_ON : goal.returns-then-a-ne-GOES_ON
returns-then-a-ne-GOES_ON c = wants-none _ _ 0 c.if-a-ne-GOES_ON.true

pub returns-then-head_next : goal.returns-then-head_next
returns-then-head_next c = wants-head _ _ _ c.if-a-ne-GOES_ON.false (sym c.head_next.ensures ∙ c.if-head_next.true) c.head_size.ensures

pub returns-then-a-eq-ZEROS : goal.returns-then-a-eq-ZEROS
returns-then-a-eq-ZEROS c = wants-zeros _ _ 0 c.if-a-ne-GOES_ON.false (sym c.head_next.ensures ∙ c.if-head_next.false) c.if-a-eq-ZEROS.true

pub returns : goal.returns
returns c = wants-piece _ _ _ c.if-a-ne-GOES_ON.false (sym c.head_next.ensures ∙ c.if-head_next.false) c.if-a-eq-ZEROS.false c.piece_of.ensures
