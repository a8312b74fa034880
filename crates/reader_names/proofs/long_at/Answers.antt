-- `reader_names::long_at` meets its contract.
-- Assumes nothing.
use native.Mathlib.Omega.{arith}
use Rattle.endian.proofs.Laws.{got_in}
use Rattle.reader_names.proofs.long_at.Goals as goal

pub returns : goal.returns
returns c = got_in c.be64.ensures (omega arith)
