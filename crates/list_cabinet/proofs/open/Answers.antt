-- `list_cabinet::open` meets its contract.
-- Assumes nothing.
use Rattle.list_cabinet.proofs.open.Goals as goal

pub returns : goal.returns
returns c = rw c.first-number.ensures
