-- `reader::not_found` meets its contract.
-- Assumes nothing.
use Rattle.reader.proofs.Answers.{none_found}
use Rattle.reader.proofs.not_found.Goals as goal

pub returns : goal.returns
returns c = none_found _ _ _ c.zero-geometry.ensures c.no_plan-none.ensures
