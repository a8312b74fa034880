-- `list_send::stepped_on` meets its contract.
-- Assumes nothing.
use Rattle.list_send.proofs.stepped_on.Goals as goal

pub returns : goal.returns
returns c = rw c.saturating_sub.ensures
