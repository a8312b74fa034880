-- `list_send::next_of` meets its contract.
-- Assumes nothing.
use Rattle.list_send.proofs.next_of.Goals as goal

pub returns : goal.returns
returns c = c.saturating_sub.ensures
