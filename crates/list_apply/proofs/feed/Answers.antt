-- `list_apply::feed` meets its contract.
-- Assumes nothing.
use Rattle.std.proofs.Common.{sym, ◌∙◌}
use Rattle.list_apply.proofs.Steps.{fed-none, fed-head, fed-zeros, fed-bytes}
use Rattle.list_apply.proofs.feed.Goals as goal

pub returns-then-a-ne-GOES_ON : goal.returns-then-a-ne-GOES_ON
returns-then-a-ne-GOES_ON c = fed-none _ _ _ 0 _ c.if-a-ne-GOES_ON.true c.idle_step.ensures

pub returns-then-head_next : goal.returns-then-head_next
returns-then-head_next c = fed-head _ _ _ 0 _ c.if-a-ne-GOES_ON.false (sym c.head_next.ensures ∙ c.if-head_next.true) c.feed_head.ensures

pub returns-then-a-eq-ZEROS : goal.returns-then-a-eq-ZEROS
returns-then-a-eq-ZEROS c = fed-zeros _ _ _ _ _ c.if-a-ne-GOES_ON.false (sym c.head_next.ensures ∙ c.if-head_next.false) c.if-a-eq-ZEROS.true c.piece_of.ensures c.put_piece.ensures

pub returns : goal.returns
returns c = fed-bytes _ _ _ 0 _ c.if-a-ne-GOES_ON.false (sym c.head_next.ensures ∙ c.if-head_next.false) c.if-a-eq-ZEROS.false c.feed_bytes.ensures
