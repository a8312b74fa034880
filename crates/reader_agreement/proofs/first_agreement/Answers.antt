-- `reader_agreement::first_agreement` meets its contract.
-- Assumes nothing.
use Rattle.reader_agreement.proofs.Laws.{both-sizings}
use Rattle.reader_agreement.proofs.first_agreement.Goals as goal

pub returns : goal.returns
returns c = both-sizings c.args.head.now _ _ _ c.first_as-plain.ensures c.first_as-roomy.ensures c.farther.ensures
