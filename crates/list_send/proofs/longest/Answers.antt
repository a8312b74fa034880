-- `list_send::longest` meets its contract.
-- Assumes nothing.
use Rattle.list_send.specs.Sending.{longest_piece}
use Rattle.list_send.proofs.longest.Goals as goal

pub returns : goal.returns
unfolding longest_piece
returns c = rw (c.max_u64.ensures, c.piece_length-root.ensures, c.saturating_sub.ensures, c.piece_length-head.ensures)
