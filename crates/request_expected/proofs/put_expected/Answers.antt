-- `request_expected::put_expected` meets its contract.
-- Assumes nothing.
use Rattle.request_expected.proofs.Laws.{expected-put}
use Rattle.request_expected.proofs.put_expected.Goals as goal

pub returns : goal.returns
returns c = expected-put _ _ c.min.ensures c.texts.ensures c.put_line.ensures
