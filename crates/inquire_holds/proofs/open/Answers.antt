-- `inquire_holds::open` meets its contract.
-- Assumes nothing.
use Rattle.inquire_holds.proofs.Laws.{opened-by}
use Rattle.inquire_holds.proofs.open.Goals as goal

pub returns : goal.returns
returns c = opened-by _ _ _ _ _ _ _ c.parse-q.ensures c.compute-c.ensures c.start-h.ensures c.or_next-later.ensures c.or_next.ensures
