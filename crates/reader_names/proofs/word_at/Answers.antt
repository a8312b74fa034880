-- `reader_names::word_at` meets its contract.
-- Assumes nothing.
use native.Mathlib.Omega.{arith}
use Rattle.endian.proofs.Laws.{got_in}
use Rattle.reader_names.proofs.word_at.Goals as goal

pub returns : goal.returns
returns c = got_in c.be32.ensures (omega arith)
