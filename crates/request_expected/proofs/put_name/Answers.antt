-- `request_expected::put_name` meets its contract.
-- Assumes nothing.
use Rattle.request_expected.proofs.Laws.{name-put}
use Rattle.request_expected.proofs.put_name.Goals as goal

pub returns : goal.returns
returns c = name-put _ _ c.min.ensures c.names.ensures c.put_line.ensures
