-- `request_words::words::has` meets its contract.
-- Assumes nothing.
use mathlib.Core.Path.{refl}
use Rattle.request_words.proofs.words.has.Goals as goal

pub returns : goal.returns
returns c = rw c.find-w.ensures refl
